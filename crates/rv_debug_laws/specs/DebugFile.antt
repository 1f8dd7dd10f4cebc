-- A file with debug information as it is written, and what a reader finds in it.

use Rattle.std.specs.Prelude.{ℕ, ◌≡◌, ◌+◌, ◌<◌, ◌^◌, zero, suc, true, List, [], ◌∷◌, ◌++◌, length, take, drop, map, Option, Some, None}
use Rattle.std.specs.List.{AllByRecursion}
use Rattle.rv_elf_laws.specs.FirstFault.{first_true, open_tests}
use Rattle.rv_elf_laws.specs.Numbers.{stb_local, stb_global}
use Rattle.rv_elf_laws.specs.Sections.{indexed_contents, names_section, program_headers, section_headers, string_at, symbols_in}
use Rattle.rv_map_laws.specs.Limits.{IsRegion}
use Rattle.rv_map_laws.specs.Map.{Map}
use Rattle.rv_image_laws.specs.FirstFault.{first_fault}
use Rattle.rv_image_laws.specs.Image.{Image}
use Rattle.rv_image_laws.specs.ImageOf.{ImageOf}
use Rattle.rv_debug_laws.specs.declared.line_row.SourceFile.{SourceFile}
use Rattle.rv_debug_laws.specs.declared.line_row.LineRow.{LineRow}
use Rattle.rv_debug_laws.specs.LineProgram.{Entry}
use Rattle.rv_debug_laws.specs.LineTable.{entries_of}
use Rattle.rv_debug_laws.specs.LineUnit.{length_at, table_at}
use Rattle.rv_debug_laws.specs.Code.{code_of}
use Rattle.rv_debug_laws.specs.File.{Places, section_names, symtab_index, strtab_index, line_index, info_index, abbrev_index, aranges_index, null_header, loaded_headers, pieces_of, with_table, file_with}
use Rattle.rv_debug_laws.specs.Stored.{can_grow, stored_at}
use Rattle.rv_debug_laws.specs.Symbols.{Names, IsKnownName, expected_symbol, named_symbol, string_table, symbol_table}
use Rattle.rv_debug_laws.specs.Units.{AddUnits, DebugBytes, abbreviations, no_debug}

-- the executable has the bytes of the regions at these places
pub record AreStored (exe : List ℕ) (m : Map) (at : Places) : Type 0 where
  pub text : stored_at (program_headers exe) m.text ≡ Some at.text
  pub rodata : stored_at (program_headers exe) m.rodata ≡ Some at.rodata
  pub «data» : stored_at (program_headers exe) m.data ≡ Some at.data

-- numbers that the fields of a file hold
pub record HasFields (exe : List ℕ) (m : Map) (names : Names) (at : Places)
    (debug : DebugBytes) : Type 0 where
  pub executable : length exe < 2 ^ 32
  pub strings : length (string_table names) < 2 ^ 32
  pub lines : length debug.lines < 2 ^ 32
  pub info : length debug.info < 2 ^ 32
  pub ranges : length debug.ranges < 2 ^ 32
  pub text : IsRegion m.text × (at.text < 2 ^ 64)
  pub rodata : IsRegion m.rodata × (at.rodata < 2 ^ 64)
  pub «data» : IsRegion m.data × (at.data < 2 ^ 64)
  pub bss : IsRegion m.bss
  pub labelled : AllByRecursion IsKnownName names.labels
  pub globals : AllByRecursion IsKnownName names.globals

-- the file of an executable, its map, what is known of its names, and its sources, which were
-- assembled in this directory
pub record IsDebugFile (exe : List ℕ) (m : Map) (names : Names) (directory : List ℕ)
    (sources : List SourceFile) (file : List ℕ) : Type 0 where
  pub at : Places
  pub debug : DebugBytes
  pub opens : first_true (open_tests exe) ≡ None
  pub grows : can_grow exe ≡ true
  pub stored : AreStored exe m at
  pub units : AddUnits m directory 1 sources no_debug debug
  pub fits : HasFields exe m names at debug
  pub is : file
      ≡ file_with exe m at
      (pieces_of (length names.labels) (symbol_table m names) (string_table names) debug)

-- ---- what a reader finds

-- what stands behind the unit at the front of some bytes
abbrev pub behind_unit : List ℕ → List ℕ
behind_unit bytes = drop (4 + length_at 0 bytes) bytes

-- the tables of so many units, one after another
abbrev pub line_tables : ℕ → List ℕ → List (Option (List Entry))
line_tables zero bytes = []
line_tables (suc count) bytes = table_at bytes ∷ line_tables count (behind_unit bytes)

-- the table of the code of a source, if it has any
abbrev pub code_table : List LineRow → List (Option (List Entry))
code_table [] = []
code_table (row ∷ rows) = Some (entries_of (row ∷ rows)) ∷ []

-- the rows of code of each source, the first of which has this number, with their lines
abbrev pub source_tables : Map → ℕ → List SourceFile → List (Option (List Entry))
source_tables m number [] = []
source_tables m number (source ∷ sources) =
    code_table (code_of m.text number m.rows) ++ source_tables m (suc number) sources

pub record HasDebug (exe : List ℕ) (m : Map) (names : Names) (directory : List ℕ)
    (sources : List SourceFile) (file : List ℕ) : Type 0 where
  -- the executable stands in front, but for the four fields that lead to the table
  pub behind : List ℕ
  pub front : file ≡ with_table exe ++ behind
  -- it is loaded as the executable is
  pub sound : first_fault exe ≡ None → first_fault file ≡ None
  pub image : (image : Image) → ImageOf exe image → ImageOf file image
  -- sections have these names; the first are the map's regions, with their addresses and places
  pub called : map (λ h. string_at (indexed_contents file (names_section file)) h.sh_name)
      (section_headers file)
      ≡ map (λ name. Some name) section_names
  pub at : Places
  pub stored : AreStored exe m at
  pub loaded : take 5 (section_headers file) ≡ null_header ∷ loaded_headers m at
  -- each name has its address, its type and its size
  pub symbols : map (named_symbol (indexed_contents file strtab_index))
      (drop 1 (symbols_in (indexed_contents file symtab_index)))
      ≡ map (expected_symbol m stb_local) names.labels
      ++ map (expected_symbol m stb_global) names.globals
  -- the line tables are those of the code of the sources
  pub tables : line_tables (length (source_tables m 1 sources))
      (indexed_contents file line_index)
      ≡ source_tables m 1 sources
  -- and there are units that lead to them
  pub debug : DebugBytes
  pub units : AddUnits m directory 1 sources no_debug debug
  pub lines : indexed_contents file line_index ≡ debug.lines
  pub info : indexed_contents file info_index ≡ debug.info
  pub abbrevs : indexed_contents file abbrev_index ≡ abbreviations
  pub ranges : indexed_contents file aranges_index ≡ debug.ranges
