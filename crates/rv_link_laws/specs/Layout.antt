-- Where the sections of objects stand (gABI, "Sections"; GNU ld, "SECTIONS Command"; this project's
-- layout).

use Rattle.std.specs.Prelude.{◌≡◌, ℕ, ◌+◌, ◌-◌, ◌<◌, ◌≤◌, ◌^◌, ◌⊎◌, IsTrue, List, [], ◌++◌, Option, Some, None}
use Rattle.std.specs.List.{AllByRecursion, list_all, slice_get}
use Rattle.rv_isa_laws.specs.Platform.{memory_limit}
use Rattle.rv_size_laws.specs.Alignment.{aligned}
use Rattle.rv_map_laws.specs.declared.map.Region.{Region}
use Rattle.rv_map_laws.specs.Map.{Map, Global}
use Rattle.rv_object_laws.specs.Object.{Section, Object, size_of}
use Rattle.rv_link_laws.specs.declared.bounds.Ground.{Ground}
use Rattle.rv_link_laws.specs.Moves.{moves, has_room, new_offset}
use Rattle.rv_link_laws.specs.Inputs.{Starts, goes_to_text, goes_to_rodata, goes_to_data, goes_to_bss, inputs, start_of, Stand, Holds, gaps_of, greatest}
use Rattle.rv_link_laws.specs.Names.{Outer, outer_address, globals_of, shown_linker_symbols}

-- where each section starts, by its file, from 1, and its index there, the bounds of the regions,
-- and the parts of the text between its sections
pub record Layout : Type 0 where
  pub starts : Starts
  pub text : Region
  pub rodata : Region
  pub «data» : Region
  pub bss : Region
  pub gaps : List Region

-- the bytes of the text, of the constants, and from the variables to the end of the zeros
abbrev pub memory_of : Region → Region → Region → Region → ℕ
memory_of text rodata variables bss =
    (text.end - text.start) + (rodata.end - rodata.start) + (bss.end - variables.start)

-- the section at an index of a file, both from 0
abbrev pub section_in : Option Object → ℕ → Option Section
section_in None index = None
section_in (Some o) index = slice_get o.sections index

abbrev pub object_section : List Object → ℕ → ℕ → Option Section
object_section os file index = section_in (slice_get os file) index

-- sections stand so on a ground
pub record IsLayout (os : List Object) (g : Ground) (l : Layout) : Type 0 where
  -- each byte of a section has an offset, and each that is kept an address
  pub low : (file index : ℕ) (s : Section) → object_section os file index ≡ Some s
      → (size_of s.contents < 2 ^ 64)
      × (l.starts (file + 1) index
      + new_offset (moves (l.starts (file + 1) index) s) (size_of s.contents) < 2 ^ 64)
  -- text from the text's start, rodata and data at the next pages, bss after data
  pub text : Holds l.starts l.text g.text (inputs goes_to_text os)
  pub gaps : l.gaps ≡ gaps_of l.starts g.text (inputs goes_to_text os)
  pub rodata : Holds l.starts l.rodata (aligned 4096 l.text.end) (inputs goes_to_rodata os)
  pub «data» : Holds l.starts l.data (aligned 4096 l.rodata.end) (inputs goes_to_data os)
  pub bss : Holds l.starts l.bss (aligned (greatest (inputs goes_to_bss os)) l.data.end)
      (inputs goes_to_bss os)
  pub ordered : (l.text.start ≤ l.text.end) × (l.text.end ≤ l.rodata.start)
      × (l.rodata.start ≤ l.rodata.end) × (l.rodata.end ≤ l.data.start)
      × (l.data.start ≤ l.data.end) × (l.data.end ≤ l.bss.start) × (l.bss.start ≤ l.bss.end)
  -- all of it below the ceiling, and no more than may be loaded
  pub below : l.bss.end ≤ g.ceiling
  pub memory : memory_of l.text l.rodata l.data l.bss ≤ memory_limit

-- ---- room

-- each alignment in code has room for its least padding
abbrev pub AreRoomy : List Object → Starts → Type 0
AreRoomy os starts =
    AllByRecursion (λ i. IsTrue (list_all has_room (moves (start_of starts i) i.section)))
    (inputs goes_to_text os)

-- wherever the text's sections stand one behind the other, each has room for its paddings
abbrev pub HasRoom : List Object → ℕ → Type 0
HasRoom os text_start =
    (starts : Starts) → Stand starts text_start (inputs goes_to_text os) → AreRoomy os starts

-- sections are too large where their regions, however far they reach, end above the ceiling or need
-- more memory than there is
abbrev pub IsTooLarge : List Object → Ground → Type 0
IsTooLarge os g =
    (starts : Starts) (text rodata variables bss : Region)
    → Holds starts text g.text (inputs goes_to_text os)
    → Holds starts rodata (aligned 4096 text.end) (inputs goes_to_rodata os)
    → Holds starts variables (aligned 4096 rodata.end) (inputs goes_to_data os)
    → Holds starts bss (aligned (greatest (inputs goes_to_bss os)) variables.end)
    (inputs goes_to_bss os)
    → (g.ceiling < bss.end) ⊎ (memory_limit < memory_of text rodata variables bss)

-- ---- names

-- a map with these regions, of which the linker's names have their addresses
abbrev pub regions_of : Layout → Map
regions_of l = record {
  text = l.text;
  rodata = l.rodata;
  «data» = l.data;
  bss = l.bss;
  entry = 0;
  gaps = [];
  globals = [];
  drops = [];
  rows = [];
}

-- the definitions that names mean, with addresses, then the linker's names that nobody defines
abbrev pub shown_globals : List Object → Layout → List Global
shown_globals os l = globals_of l.starts os ++ shown_linker_symbols os (regions_of l)

-- what symbols mean that their own objects don't surely define
abbrev pub outer_in : List Object → Layout → Outer
outer_in os l = outer_address os (shown_globals os l)
