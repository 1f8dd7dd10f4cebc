-- The table of a whole line number program, and the rows of code in it.

use Rattle.std.specs.Prelude.{ℕ, ◌-◌, ◌==◌, nat_le, ◌||◌, nat_abs, zero, suc, List, [], ◌∷◌, ◌++◌, Option, Some, None, if◌then◌else◌}
use Rattle.rv_debug_laws.specs.declared.line_row.LineRow.{LineRow}
use Rattle.rv_debug_laws.specs.LineProgram.{Header, Registers, Entry, Row, End, when_read, start}
use Rattle.rv_debug_reader.specs.Machine.{instruction}

-- the entries that the bytes append from these registers on, where the first so many were read with
-- the opcode before them; a program ends only where an instruction does
unfoldable pub appended : Header → Registers → ℕ → List ℕ → Option (List Entry)
appended h r zero [] = Some []
appended h r (suc taken) [] = None
appended h r (suc taken) (b ∷ bs) = appended h r taken bs
appended h r zero (b ∷ bs) =
    when_read (instruction h r b bs)
    (λ step. when_read (appended h step.registers step.taken bs)
    (λ entries. Some (step.entries ++ entries)))

unfoldable pub line_table : Header → List ℕ → Option (List Entry)
line_table h bytes = appended h (start h) 0 bytes

abbrev pub entry_address : Entry → ℕ
entry_address (Row r) = r.address
entry_address (End address) = address

-- the row of code from the registers' address up to another, if it has bytes and a line
abbrev pub row_up_to : Registers → ℕ → List LineRow
row_up_to r end =
    if nat_abs r.line == 0 || nat_le end r.address then []
    else record {
      address = r.address;
      bytes = end - r.address;
      file = r.file;
      line = nat_abs r.line;
    } ∷ []

abbrev pub row_before : Entry → List Entry → List LineRow
row_before (End address) entries = []
row_before (Row r) [] = []
row_before (Row r) (next ∷ entries) = row_up_to r (entry_address next)

-- the rows of a table: each up to the next entry
abbrev pub code_rows : List Entry → List LineRow
code_rows [] = []
code_rows (entry ∷ entries) = row_before entry entries ++ code_rows entries
