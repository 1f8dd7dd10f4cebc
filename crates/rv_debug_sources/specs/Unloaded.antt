-- Objects and files in which a section is loaded only if it is in the object of the source itself,
-- whose sections are the same, up to some behind them (System V gABI, "Sections", sh_flags).

use Rattle.std.specs.Prelude.{ℕ, suc, ◌+◌, ◌-◌, ◌*◌, ◌/◌, ◌%◌, ◌==◌, Bool, false, not, ◌&&◌, List, [], ◌∷◌, ◌++◌, flat_map, filter, take, drop, Option, Some, None, slice_get, if◌then◌else◌}
use Rattle.rv_elf_laws.specs.declared.section_header.SectionHeader.{SectionHeader}
use Rattle.rv_elf_laws.specs.Fields.{number_in, e_shoff, section_header_size}
use Rattle.rv_elf_laws.specs.Numbers.{shf_alloc}
use Rattle.rv_elf_laws.specs.Records.{section_header_bytes}
use Rattle.rv_elf_laws.specs.Sections.{section_count, section_headers}
use Rattle.rv_object_laws.specs.declared.row.Row.{Row}
use Rattle.rv_object_laws.specs.Object.{Object, Section}

-- whether a section among these is loaded; what stands behind them is not
abbrev pub is_loaded_section : Option Section → Bool
is_loaded_section None = false
is_loaded_section (Some s) = s.loaded

abbrev pub is_loaded_at : List Section → (index : ℕ) → Bool
is_loaded_at own index = is_loaded_section (slice_get own index)

-- ---- rows

-- a row of a loaded section
abbrev pub keeps_row : List Section → Row → Bool
keeps_row own r = is_loaded_at own r.section

-- an object without the rows of sections that are not loaded
abbrev pub without_unloaded_rows : List Section → Object → Object
without_unloaded_rows own o = record {
  sections = o.sections;
  symbols = o.symbols;
  rows = filter (keeps_row own) o.rows;
  rvc = o.rvc;
}

-- ---- flags

abbrev pub without_flag : ℕ → SectionHeader → SectionHeader
without_flag flag h = record h { sh_flags = h.sh_flags - h.sh_flags / flag % 2 * flag }

-- in a file section 0 is none, and behind it stand those of the object
abbrev pub is_loaded_header : List Section → (index : ℕ) → Bool
is_loaded_header own index = not (index == 0) && is_loaded_at own (index - 1)

-- a section that is not loaded has no SHF_ALLOC
abbrev pub unloaded_header : List Section → (index : ℕ) → SectionHeader → SectionHeader
unloaded_header own index h =
    if is_loaded_header own index then h else without_flag shf_alloc h

-- these headers, of sections from an index on
abbrev pub unloaded_headers : List Section → (index : ℕ) → List SectionHeader →
    List SectionHeader
unloaded_headers own index [] = []
unloaded_headers own index (h ∷ hs) =
    unloaded_header own index h ∷ unloaded_headers own (suc index) hs

-- where the table of section headers ends
abbrev pub table_end : List ℕ → ℕ
table_end file = number_in e_shoff 0 file + section_header_size * section_count file

abbrev pub headers_bytes : List Section → List ℕ → List ℕ
headers_bytes own file =
    flat_map section_header_bytes (unloaded_headers own 0 (section_headers file))

-- a file in which only such sections are loaded: all but the table of section headers is as it was
abbrev pub unloaded : List Section → List ℕ → List ℕ
unloaded own file = take (number_in e_shoff 0 file) file
    ++ (headers_bytes own file ++ drop (table_end file) file)
