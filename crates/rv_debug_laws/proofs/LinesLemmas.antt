-- The tables of units that stand one after another.

use Rattle.std.proofs.Common.{◌≡◌, ◌∙◌, ℕ, ◌+◌, suc, List, [], ◌∷◌, ◌++◌, length, take, drop, Option, Some, ap, refl, sym, append_assoc, append-nil}
use Rattle.std.proofs.lemmas.List.{append_cancel_left, take-append-drop}
use Rattle.rv_map_laws.specs.Map.{Map}
use Rattle.rv_debug_laws.specs.declared.line_row.SourceFile.{SourceFile}
use Rattle.rv_debug_laws.specs.declared.line_row.LineRow.{LineRow}
use Rattle.rv_debug_laws.specs.LineProgram.{Entry}
use Rattle.rv_debug_laws.specs.LineTable.{entries_of}
use Rattle.rv_debug_laws.specs.LineUnit.{IsUnit, length_at, table_at}
use Rattle.rv_debug_laws.proofs.UnitLemmas.{table_found, unit_found}
use Rattle.rv_debug_laws.specs.Code.{code_of}
use Rattle.rv_debug_laws.specs.DebugFile.{behind_unit, code_table, line_tables, source_tables}
use Rattle.rv_debug_laws.specs.Units.{AddUnits, AddsCode, DebugBytes}

-- what stands behind a unit
unit_passed : (unit directory program rest : List ℕ) (files : List SourceFile) → IsUnit unit directory files program →
    behind_unit (unit ++ rest) ≡ rest
unit_passed unit directory program rest files h =
    let n = 4 + length_at 0 (unit ++ rest) in
    let whole : take n (unit ++ rest) ++ drop n (unit ++ rest) ≡ unit ++ rest = take-append-drop n (unit ++ rest) in
    append_cancel_left unit (drop n (unit ++ rest)) rest
    (ap (λ u. u ++ drop n (unit ++ rest)) (sym (unit_found unit directory program rest files h)) ∙ whole)

-- what units add to the lines, and its tables, whatever follows
pub record AddsCodeTables (expected : List (Option (List Entry))) (before after : List ℕ) : Type 0 where
  pub added : List ℕ
  pub written : after ≡ before ++ added
  pub tables : (rest : List ℕ) → line_tables (length expected) (added ++ rest) ≡ expected

abbrev pub AddsTables : Map → ℕ → List SourceFile → (before after : List ℕ) → Type 0
AddsTables m number sources before after = AddsCodeTables (source_tables m number sources) before after

pub tables_added : (m : Map) (directory : List ℕ) (number : ℕ) (sources : List SourceFile) (before after : DebugBytes) →
    AddUnits m directory number sources before after → AddsTables m number sources before.lines after.lines
tables_added m directory number [] before after h = record {
  added = [];
  written = ap (λ d. d.lines) h ∙ sym (append-nil before.lines);
  tables = λ rest. refl;
}
tables_added m directory number (source ∷ sources) before after (next, first, more) =
    go (code_of m.text number m.rows) first (tables_added m directory (suc number) sources next after more)
  where
    go : (code : List LineRow) → AddsCode directory source code before next → AddsTables m (suc number) sources next.lines after.lines →
        AddsCodeTables (code_table code ++ source_tables m (suc number) sources) before.lines after.lines
    go [] same later = record {
      added = later.added;
      written = later.written ∙ ap (λ d. d.lines ++ later.added) same;
      tables = later.tables;
    }
    go (row ∷ rows) unit later = record {
      added = unit.unit ++ later.added;
      written = later.written ∙ ap (λ l. l ++ later.added) unit.lines ∙ append_assoc before.lines unit.unit later.added;
      tables = λ rest.
          let behind : List ℕ = later.added ++ rest in
          let count : ℕ = length (source_tables m (suc number) sources) in
          let one : table_at (unit.unit ++ behind) ≡ Some (entries_of (row ∷ rows)) =
          table_found unit.unit directory unit.program behind (source ∷ source ∷ []) unit.is_unit ∙ unit.table in
          let others : line_tables count (behind_unit (unit.unit ++ behind)) ≡ source_tables m (suc number) sources =
          ap (line_tables count) (unit_passed unit.unit directory unit.program behind (source ∷ source ∷ []) unit.is_unit)
          ∙ later.tables rest in
          ap (line_tables (suc count)) (append_assoc unit.unit later.added rest)
          ∙ (λ i. one i ∷ others i);
    }
