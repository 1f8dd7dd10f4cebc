-- The line table of rows of code (DWARF 5, 6.2): each row in order, and the end of each sequence,
-- which is where the next row does not begin at the address behind the code before it.

use Rattle.std.specs.Prelude.{ℕ, ◌+◌, ◌==◌, pos, Bool, true, false, if◌then◌else◌, List, [], ◌∷◌, ◌++◌}
use Rattle.rv_debug_laws.specs.declared.line_row.LineRow.{LineRow}
use Rattle.rv_debug_laws.specs.LineProgram.{Registers, Entry, Row, End}

-- the registers at a row
abbrev pub registers_at : LineRow → Registers
registers_at row =
    record { address = row.address; file = row.file; line = pos row.line; is_stmt = true }

-- the address behind a row's code
abbrev pub code_end : LineRow → ℕ
code_end row = row.address + row.bytes

-- the first of these rows begins at the address behind a row's code
abbrev pub is_continued : LineRow → List LineRow → Bool
is_continued row [] = false
is_continued row (next ∷ rows) = next.address == code_end row

-- the end of a sequence behind a row, unless the next row goes on there
abbrev pub break_behind : LineRow → List LineRow → List Entry
break_behind row rows = if is_continued row rows then [] else End (code_end row) ∷ []

abbrev pub entries_of : List LineRow → List Entry
entries_of [] = []
entries_of (row ∷ rows) = Row (registers_at row) ∷ (break_behind row rows ++ entries_of rows)
