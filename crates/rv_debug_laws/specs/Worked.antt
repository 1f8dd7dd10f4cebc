-- Sections of .debug_line that GNU as and ld 2.40 made, to be read by these definitions. What they
-- mean is what readelf says.

use Rattle.std.specs.Prelude.{ℕ, pos, Bool, true, false, List, [], ◌∷◌}
use Rattle.rv_debug_laws.specs.LineProgram.{Entry, Row, End}

abbrev pub read_row : (address file line : ℕ) (is_stmt : Bool) → Entry
read_row address file line is_stmt =
    Row (record { address = address; file = file; line = pos line; is_stmt = is_stmt })

-- for RISC-V: DW_LNS_fixed_advance_pc, negate_stmt, set_file, advance_line
abbrev pub riscv_section : List ℕ
riscv_section =
    116 ∷ 0 ∷ 0 ∷ 0 ∷ 5 ∷ 0 ∷ 8 ∷ 0 ∷ 47 ∷ 0 ∷ 0 ∷ 0 ∷ 1 ∷ 1 ∷ 1 ∷ 251 ∷ 14 ∷ 13 ∷ 0 ∷ 1
    ∷ 1 ∷ 1 ∷ 1 ∷ 0 ∷ 0 ∷ 0 ∷ 1 ∷ 0 ∷ 0 ∷ 1 ∷ 1 ∷ 1 ∷ 31 ∷ 1 ∷ 0 ∷ 0 ∷ 0 ∷ 0 ∷ 2 ∷ 1
    ∷ 31 ∷ 2 ∷ 15 ∷ 3 ∷ 15 ∷ 0 ∷ 0 ∷ 0 ∷ 0 ∷ 15 ∷ 0 ∷ 0 ∷ 0 ∷ 0 ∷ 23 ∷ 0 ∷ 0 ∷ 0 ∷ 0 ∷ 0
    ∷ 9 ∷ 2 ∷ 0 ∷ 0 ∷ 0 ∷ 128 ∷ 0 ∷ 0 ∷ 0 ∷ 0 ∷ 20 ∷ 3 ∷ 1 ∷ 9 ∷ 62 ∷ 0 ∷ 1 ∷ 6 ∷ 3 ∷ 16
    ∷ 9 ∷ 0 ∷ 0 ∷ 1 ∷ 4 ∷ 2 ∷ 6 ∷ 3 ∷ 115 ∷ 9 ∷ 46 ∷ 1 ∷ 1 ∷ 3 ∷ 1 ∷ 9 ∷ 0 ∷ 0 ∷ 1 ∷ 4
    ∷ 1 ∷ 3 ∷ 122 ∷ 9 ∷ 2 ∷ 0 ∷ 1 ∷ 3 ∷ 170 ∷ 2 ∷ 9 ∷ 4 ∷ 0 ∷ 1 ∷ 9 ∷ 2 ∷ 0 ∷ 0 ∷ 1 ∷ 1
    ∷ []

abbrev pub riscv_table : List Entry
riscv_table =
    read_row 0x8000_0000 1 3 true ∷ read_row 0x8000_003e 1 4 true ∷ read_row 0x8000_003e 1 20 false
    ∷ read_row 0x8000_016c 2 7 true ∷ read_row 0x8000_016c 2 8 true
    ∷ read_row 0x8000_016e 1 2 true ∷ read_row 0x8000_0172 1 300 true
    ∷ End 0x8000_0174 ∷ []

-- for x86-64: special opcodes, DW_LNS_const_add_pc, advance_pc
abbrev pub other_section : List ℕ
other_section =
    78 ∷ 0 ∷ 0 ∷ 0 ∷ 5 ∷ 0 ∷ 8 ∷ 0 ∷ 42 ∷ 0 ∷ 0 ∷ 0 ∷ 1 ∷ 1 ∷ 1 ∷ 251 ∷ 14 ∷ 13 ∷ 0 ∷ 1
    ∷ 1 ∷ 1 ∷ 1 ∷ 0 ∷ 0 ∷ 0 ∷ 1 ∷ 0 ∷ 0 ∷ 1 ∷ 1 ∷ 1 ∷ 31 ∷ 1 ∷ 0 ∷ 0 ∷ 0 ∷ 0 ∷ 2 ∷ 1
    ∷ 31 ∷ 2 ∷ 15 ∷ 2 ∷ 15 ∷ 0 ∷ 0 ∷ 0 ∷ 0 ∷ 15 ∷ 0 ∷ 0 ∷ 0 ∷ 0 ∷ 0 ∷ 9 ∷ 2 ∷ 0 ∷ 16 ∷ 64
    ∷ 0 ∷ 0 ∷ 0 ∷ 0 ∷ 0 ∷ 20 ∷ 8 ∷ 75 ∷ 2 ∷ 40 ∷ 26 ∷ 55 ∷ 3 ∷ 193 ∷ 1 ∷ 1 ∷ 2 ∷ 173 ∷ 2 ∷ 0
    ∷ 1 ∷ 1
    ∷ []

abbrev pub other_table : List Entry
other_table =
    read_row 0x40_1000 1 3 true ∷ read_row 0x40_1015 1 4 true ∷ read_row 0x40_103d 1 12 true
    ∷ read_row 0x40_1040 1 7 true ∷ read_row 0x40_1040 1 200 true
    ∷ End 0x40_116d ∷ []
