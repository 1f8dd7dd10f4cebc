-- Numbers that are small enough for their fields.

use Rattle.std.specs.Prelude.{ℕ, ◌≡◌, ◌+◌, ◌<◌, ◌^◌, List, length}
use Rattle.rv_debug_laws.specs.Carried.{Merged}
use Rattle.rv_debug_laws.specs.CarriedFile.{merged_contents, carried_end, headers_of, strings_of}
use Rattle.rv_debug_sections.specs.declared.writing.Ends.{Ends}

-- what stands behind a file ends at these places, which are small enough
pub record AreEnds (file : List ℕ) (ms : List Merged) (ends : Ends) : Type 0 where
  pub contents : ends.contents ≡ length file + length (merged_contents ms)
  pub names : ends.names ≡ carried_end file ms
  pub low : carried_end file ms < 2 ^ 63
  pub short : length (strings_of file ms) < 2 ^ 32

-- the numbers of the file are small enough
pub record AreInBounds (file : List ℕ) (ms : List Merged) : Type 0 where
  pub few : length (headers_of file ms) < 0xFF00
  pub low : carried_end file ms < 2 ^ 63
  pub short : length (strings_of file ms) < 2 ^ 32
