-- The table of a unit that is written.

use Rattle.std.proofs.Common.{◌≡◌, ◌∙◌, ℕ, ◌+◌, ◌<◌, List, ◌++◌, length, Option}
use Rattle.rv_debug_laws.specs.declared.line_row.SourceFile.{SourceFile}
use Rattle.rv_debug_laws.specs.LineProgram.{Entry, line_table}
use Rattle.rv_debug_laws.specs.LineUnit.{AreFields, header, table_at, unit_bytes}
use Rattle.rv_debug_laws.proofs.UnitLemmas.{table_found}

-- a reader finds the program's table
pub table_read : (unit rest fields program directory : List ℕ) (files : List SourceFile) (table : Option (List Entry)) →
    AreFields fields directory files → line_table header program ≡ table → 8 + length fields + length program < 0xffff_fff0 →
    unit ≡ unit_bytes fields program → table_at (unit ++ rest) ≡ table
table_read unit rest fields program directory files table has is short whole =
    table_found unit directory program rest files (record { fields = fields; has = has; short = short; is = whole }) ∙ is
