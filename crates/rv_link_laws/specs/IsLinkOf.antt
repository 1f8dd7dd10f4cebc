-- The linked program of objects, whoever made them (gABI, "Sections", "Symbol Table", "Relocation";
-- GNU ld; this project's layout). Nothing here knows of statements. A link needs a map that a text
-- can show (`IsMap`): numbers below 2^64, so that no address wraps where the source's does not.

use Rattle.std.specs.Prelude.{◌≡◌, ℕ, suc, ◌+◌, ◌-◌, ◌%◌, ◌<◌, ◌≤◌, nat_le, Bool, IsTrue, List, [], ◌∷◌, ◌++◌, length, map, Option, Some, None, if◌then◌else◌}
use Rattle.std.specs.List.{AllByRecursion, list_any, list_all, slice_get}
use Rattle.rv_map_laws.specs.Globals.{AreDistinct}
use Rattle.rv_size_laws.specs.Alignment.{aligned}
use Rattle.rv_isa_laws.specs.Platform.{memory_limit}
use Rattle.rv_map_laws.specs.declared.map.Row.{Row as MapRow}
use Rattle.rv_map_laws.specs.Limits.{IsMap}
use Rattle.rv_image_laws.specs.Linked.{Linked}
use Rattle.rv_image_laws.specs.Free.{free_until}
use Rattle.rv_object_laws.specs.declared.row.Row.{Row}
use Rattle.rv_object_laws.specs.Object.{Section, Object}
use Rattle.rv_link_laws.specs.declared.bounds.Ground.{Ground}
use Rattle.rv_link_laws.specs.Moves.{Move, moves, new_offset, has_room, lost}
use Rattle.rv_link_laws.specs.Inputs.{Starts, goes_to_text, goes_to_rodata, goes_to_data, goes_to_bss, inputs, start_of, Holds, gaps_of, greatest, contents}
use Rattle.rv_link_laws.specs.Names.{Outer, outer_address, globals_of, global_names, shown_linker_symbols, entry_of}
use Rattle.rv_link_laws.specs.Values.{IsRelocated, linked_bytes}

-- ---- rows

abbrev pub moves_at : ℕ → Option Section → List Move
moves_at start None = []
moves_at start (Some s) = moves start s

-- a row moves with the bytes that are kept; its instructions are those that are left of it
abbrev pub map_row : ℕ → ℕ → List Move → Row → MapRow
map_row file start ms r = record {
  file = file;
  line = r.line;
  ordinal = r.ordinal;
  address = start + new_offset ms r.offset;
  bytes = new_offset ms (r.offset + r.bytes) - new_offset ms r.offset;
  instructions = r.instructions - lost ms r.offset r.bytes;
}

abbrev pub row_in : Starts → ℕ → Object → Row → MapRow
row_in starts file o r =
    let start = starts file r.section in
    map_row file start (moves_at start (slice_get o.sections r.section)) r

-- rows in the order of their ordinals, whatever their order in the object; those of one ordinal
-- stay in theirs
abbrev pub inserted_row : Row → List Row → List Row
inserted_row r [] = r ∷ []
inserted_row r (q ∷ qs) =
    if nat_le r.ordinal q.ordinal then r ∷ q ∷ qs else q ∷ inserted_row r qs

abbrev pub by_ordinal : List Row → List Row
by_ordinal [] = []
by_ordinal (r ∷ rs) = inserted_row r (by_ordinal rs)

-- by file, and then by ordinal
abbrev pub rows_of : Starts → ℕ → List Object → List MapRow
rows_of starts file [] = []
rows_of starts file (o ∷ os) =
    map (row_in starts file o) (by_ordinal o.rows) ++ rows_of starts (suc file) os

-- ---- the whole

abbrev pub is_loaded : Section → Bool
is_loaded s = s.loaded

-- the most files that are linked at once
abbrev pub most_files : ℕ
most_files = 1024

-- the addresses of symbols that their own objects don't surely define
abbrev pub outer_of : List Object → Linked → Outer
outer_of os l = outer_address os l.map.globals

pub record IsLinkOf (os : List Object) (g : Ground) (l : Linked) : Type 0 where
  pub few : length os ≤ most_files
  -- the text begins at a page below the ceiling, and memory is free up to there
  pub page : g.text % 4096 ≡ 0
  pub low : g.text < g.ceiling
  pub free : g.ceiling ≤ free_until g.text
  -- where each section starts: text from the text's start, rodata and data at the next pages, bss
  -- after data
  pub starts : Starts
  pub text : Holds starts l.map.text g.text (inputs goes_to_text os)
  pub gaps : l.map.gaps ≡ gaps_of starts g.text (inputs goes_to_text os)
  pub rodata : Holds starts l.map.rodata (aligned 4096 l.map.text.end) (inputs goes_to_rodata os)
  pub «data» : Holds starts l.map.data (aligned 4096 l.map.rodata.end) (inputs goes_to_data os)
  pub bss : Holds starts l.map.bss (aligned (greatest (inputs goes_to_bss os)) l.map.data.end)
      (inputs goes_to_bss os)
  -- all of it below the ceiling, and no more than may be loaded
  pub below : l.map.bss.end ≤ g.ceiling
  pub memory : (l.map.text.end - l.map.text.start) + (l.map.rodata.end - l.map.rodata.start) +
      (l.map.bss.end - l.map.data.start) ≤ memory_limit
  -- each alignment in code has room for its least padding
  pub room : AllByRecursion
      (λ i. IsTrue (list_all has_room (moves (start_of starts i) i.section)))
      (inputs goes_to_text os)
  -- no name has two global definitions; a linker's name is shown where no object defines it
  pub once : AreDistinct (global_names os)
  pub globals : l.map.globals ≡ globals_of starts os ++ shown_linker_symbols os l.map
  -- a run begins at what `_start` means, an even place of a section of text
  pub entry : entry_of starts os ≡ Some l.map.entry
  -- whose address is even, too
  pub even : l.map.entry % 2 ≡ 0
  pub rows : l.map.rows ≡ rows_of starts 1 os
  -- a text shows the map: its numbers are below 2 ^ 64
  pub readable : IsMap l.map
  pub relocated : AllByRecursion
      (λ i. AllByRecursion (IsRelocated (outer_of os l) starts os i) i.section.relocations)
      (inputs is_loaded os)
  -- the regions hold the bytes of their sections
  pub text_bytes : l.text
      ≡ contents (linked_bytes (outer_of os l) starts os) starts l.map.text.start
      (inputs goes_to_text os)
  pub rodata_bytes : l.rodata
      ≡ contents (linked_bytes (outer_of os l) starts os) starts l.map.rodata.start
      (inputs goes_to_rodata os)
  pub data_bytes : l.data
      ≡ contents (linked_bytes (outer_of os l) starts os) starts l.map.data.start
      (inputs goes_to_data os)
  -- there is compressed code where an object has some
  pub rvc : l.rvc ≡ list_any (λ o. o.rvc) os
