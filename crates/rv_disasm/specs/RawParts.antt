-- What the parts of a raw listing promise: the instruction at the front of bytes, the lines of
-- bytes, and where a segment is cut.

use Rattle.std.specs.Prelude.{◌≡◌, ◌↔◌, ℕ, ◌+◌, ◌%◌, ◌<◌, List, ◌++◌, length, map, flat_map, Option, Some}
use Rattle.std.specs.List.{AllByRecursion}
use Rattle.rv_isa_laws.specs.Platform.{stack_start}
use Rattle.rv_image_laws.specs.Segment.{Segment}
use Rattle.rv_listing_laws.specs.declared.code.Code.{Code}
use Rattle.rv_listing_laws.specs.Raw.{raw_bytes, IsSourced, code_text, lines_text}

-- what is found is the instruction with which the bytes begin, where a source can write it: none
-- exactly where there is no such
abbrev pub IsFront : Option Code → List ℕ → Type 0
IsFront found bytes =
    (code : Code) →
    found ≡ Some code ↔ (IsSourced code × ((rest : List ℕ) × (bytes ≡ raw_bytes code ++ rest)))

-- the bytes are those of these instructions, each of which a source can write
pub record AreCodes (bytes : List ℕ) (cs : List Code) : Type 0 where
  pub sourced : AllByRecursion IsSourced cs
  pub same : bytes ≡ flat_map raw_bytes cs

-- the lines of such instructions were added to a text
pub record AreAdded (bytes old new : List ℕ) : Type 0 where
  pub cs : List Code
  pub codes : AreCodes bytes cs
  pub lines : new ≡ old ++ lines_text (map code_text cs)

-- a segment where code may be has these bytes before the address at which a program starts, and
-- these from there on
pub record IsCut (s : Segment) (start : ℕ) (before after : List ℕ) : Type 0 where
  pub aligned : s.address % 4096 ≡ 0
  pub below : s.address < stack_start
  pub bytes : s.bytes ≡ before ++ after
  pub some : 0 < length after
  pub entry : start ≡ s.address + length before
