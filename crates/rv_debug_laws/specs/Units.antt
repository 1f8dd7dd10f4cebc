-- The units of sources, one for each that has code, in the sections of debug information:
-- .debug_line (DWARF 5, 6.2), .debug_info (7.5.1.1, 3.1.1), .debug_abbrev (7.5.3), .debug_aranges
-- (6.1.2).

use Rattle.std.specs.Prelude.{ℕ, ◌≡◌, ◌-◌, suc, List, [], ◌∷◌, ◌++◌, length, replicate, Some}
use Rattle.std.specs.Int.{w16, w32, w64, to_le_bytes}
use Rattle.rv_map_laws.specs.declared.map.Region.{Region}
use Rattle.rv_map_laws.specs.Map.{Map}
use Rattle.rv_debug_laws.specs.declared.line_row.SourceFile.{SourceFile}
use Rattle.rv_debug_laws.specs.declared.line_row.LineRow.{LineRow}
use Rattle.rv_debug_laws.specs.LineProgram.{line_table}
use Rattle.rv_debug_laws.specs.LineTable.{entries_of}
use Rattle.rv_debug_laws.specs.LineUnit.{IsUnit, header, sized, string}
use Rattle.rv_debug_laws.specs.Code.{code_of, code_extent}

-- the sections that grow with each source
pub record DebugBytes : Type 0 where
  pub lines : List ℕ
  pub info : List ℕ
  pub ranges : List ℕ

abbrev pub no_debug : DebugBytes
no_debug = record { lines = []; info = []; ranges = [] }

-- Abbreviation 1, the only one: DW_TAG_compile_unit, without children; its attributes, each with
-- its form: DW_AT_stmt_list as DW_FORM_sec_offset, DW_AT_low_pc as DW_FORM_addr, DW_AT_high_pc as
-- DW_FORM_data8, DW_AT_name and DW_AT_comp_dir as DW_FORM_string, DW_AT_language as DW_FORM_data2
abbrev pub abbreviations : List ℕ
abbreviations =
    1 ∷ 0x11 ∷ 0
    ∷ 0x10 ∷ 0x17 ∷ 0x11 ∷ 0x01 ∷ 0x12 ∷ 0x07 ∷ 0x03 ∷ 0x08 ∷ 0x1B ∷ 0x08 ∷ 0x13 ∷ 0x05
    ∷ 0 ∷ 0 ∷ 0
    ∷ []

-- DW_LANG_Mips_Assembler, by which GNU as calls any assembly language
abbrev pub assembly_language : ℕ
assembly_language = 0x8001

-- the start and the size of some code
abbrev pub code_pair : Region → List ℕ
code_pair code = to_le_bytes w64 code.start ++ to_le_bytes w64 (code.end - code.start)

-- the numbers in front of an entry: its abbreviation, where its line table is, its code
abbrev pub entry_numbers : (lines_at : ℕ) (code : Region) → List ℕ
entry_numbers lines_at code = (1 ∷ to_le_bytes w32 lines_at) ++ code_pair code

-- the entry of a source, with its name and its directory
abbrev pub unit_entry : (lines_at : ℕ) (code : Region) (path directory : List ℕ) → List ℕ
unit_entry lines_at code path directory =
    entry_numbers lines_at code ++ (string path ++ (string directory
    ++ to_le_bytes w16 assembly_language))

-- unit_length, version 5, DW_UT_compile, address_size, debug_abbrev_offset, the one entry
abbrev pub info_unit : (lines_at : ℕ) (code : Region) (path directory : List ℕ) → List ℕ
info_unit lines_at code path directory =
    sized (5 ∷ 0 ∷ 1 ∷ 8 ∷ 0 ∷ 0 ∷ 0 ∷ 0 ∷ unit_entry lines_at code path directory)

-- unit_length, version 2, debug_info_offset, address_size, segment_selector_size, zeros up to a
-- multiple of a pair's size, the pair of the code, a pair of zeros
abbrev pub address_ranges : (info_at : ℕ) (code : Region) → List ℕ
address_ranges info_at code =
    sized
    ((2 ∷ 0 ∷ to_le_bytes w32 info_at)
    ++ ((8 ∷ 0 ∷ 0 ∷ 0 ∷ 0 ∷ 0 ∷ []) ++ (code_pair code ++ replicate 16 0)))

-- a source with code more: a unit with its line table, and the entry and addresses that lead there
pub record AddsUnit (directory : List ℕ) (source : SourceFile) (code : List LineRow)
    (before after : DebugBytes) : Type 0 where
  pub unit : List ℕ
  pub program : List ℕ
  pub is_unit : IsUnit unit directory (source ∷ source ∷ []) program
  pub table : line_table header program ≡ Some (entries_of code)
  pub lines : after.lines ≡ before.lines ++ unit
  pub info : after.info
      ≡ before.info
      ++ info_unit (length before.lines) (code_extent code) source.path.now directory
  pub ranges : after.ranges
      ≡ before.ranges ++ address_ranges (length before.info) (code_extent code)

-- a source without code has no unit
abbrev pub AddsCode : (directory : List ℕ) → SourceFile → List LineRow →
    (before after : DebugBytes) → Type 0
AddsCode directory source [] before after = after ≡ before
AddsCode directory source (row ∷ rows) before after =
    AddsUnit directory source (row ∷ rows) before after

-- the units of these sources, the first of which has this number, one after another
abbrev pub AddUnits : Map → (directory : List ℕ) → ℕ → List SourceFile →
    (before after : DebugBytes) → Type 0
AddUnits m directory number [] before after = after ≡ before
AddUnits m directory number (source ∷ sources) before after =
    (next : DebugBytes)
    × AddsCode directory source (code_of m.text number m.rows) before next
    × AddUnits m directory (suc number) sources next after
