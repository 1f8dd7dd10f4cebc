-- What the code's own values stand for.

use Rattle.std.specs.Prelude.{pos, List, [], ◌∷◌, Option, Some, None}
use Rattle.rv_debug_laws.specs.LineProgram as laws
use Rattle.rv_debug_laws.specs.declared.line_row.LineRow.{LineRow}
use Rattle.rv_debug_reader.specs.declared.state.Header.{Header}
use Rattle.rv_debug_reader.specs.declared.state.Registers.{Registers}
use Rattle.rv_debug_reader.specs.declared.state.Entry.{Entry}
use Rattle.rv_debug_reader.specs.declared.state.Entry.TheVariants.{Row, End}
use Rattle.rv_debug_reader.specs.declared.state.Step.{Step}

abbrev pub opcodes_of : Header → laws.Header
opcodes_of h = record {
  minimum_instruction_length = h.minimum_instruction_length;
  default_is_stmt = h.default_is_stmt;
  line_base = h.line_base;
  line_range = h.line_range;
  opcode_base = h.opcode_base;
}

abbrev pub registers_of : Registers → laws.Registers
registers_of r = record {
  address = r.address;
  file = r.file;
  line = pos r.line;
  is_stmt = r.is_stmt;
}

abbrev pub entry_of : Entry → laws.Entry
entry_of (Row r) = laws.Row (registers_of r)
entry_of (End address) = laws.End address

abbrev pub entries_of : Option Entry → List laws.Entry
entries_of None = []
entries_of (Some entry) = entry_of entry ∷ []

abbrev pub step_of : Step → laws.Step
step_of s = record {
  registers = registers_of s.registers;
  entries = entries_of s.entry;
  taken = s.taken;
}

-- the row that there is, if there is one
abbrev pub option_rows : Option LineRow → List LineRow
option_rows None = []
option_rows (Some row) = row ∷ []
