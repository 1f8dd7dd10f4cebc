-- Programs and units with the line table of some rows of code.

use Rattle.std.specs.Prelude.{ℕ, ◌≡◌, ◌≤◌, ◌+◌, length, option_map, List, ◌++◌, Some}
use Rattle.rv_debug_laws.specs.declared.line_row.LineRow.{LineRow}
use Rattle.rv_debug_laws.specs.declared.line_row.SourceFile.{SourceFile}
use Rattle.rv_debug_laws.specs.LineProgram.{line_table}
use Rattle.rv_debug_laws.specs.LineTable.{entries_of}
use Rattle.rv_debug_laws.specs.LineUnit.{AreFields, IsUnit, header}

-- new is old with a program at its end whose table is that of these rows; a program behind it has
-- its own table behind that
abbrev pub AppendsTable : List ℕ → List ℕ → List LineRow → Type 0
AppendsTable old new rows =
    (program : List ℕ) × (new ≡ old ++ program)
    × (line_table header program ≡ Some (entries_of rows))
    × ((others : List ℕ) → line_table header (program ++ others)
    ≡ option_map (λ later. entries_of rows ++ later) (line_table header others))

-- a unit with such a program
abbrev pub IsUnitOf : (unit directory : List ℕ) → List SourceFile → List LineRow → Type 0
IsUnitOf unit directory files rows =
    (program : List ℕ) × IsUnit unit directory files program
    × (line_table header program ≡ Some (entries_of rows))

-- the unit that was made would be too long for the 32-bit format
abbrev pub IsLong : (directory : List ℕ) → List SourceFile → List LineRow → Type 0
IsLong directory files rows =
    (fields : List ℕ) × (program : List ℕ) × AreFields fields directory files
    × (line_table header program ≡ Some (entries_of rows))
    × (0xffff_fff0 ≤ 8 + length fields + length program)
