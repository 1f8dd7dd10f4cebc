use Rattle.std.proofs.Common.{length, map}
use Rattle.rv_debug_reader.specs.Views.{opcodes_of, registers_of, entry_of}
use Rattle.rv_debug_reader.proofs.TableLemmas.{IsRead}
use Rattle.rv_debug_reader.proofs.program.line_table.Given as goal

abbrev pub invariant-loop-opcode : goal.invariant-loop-opcode
invariant-loop-opcode l =
    IsRead (opcodes_of l.header) l.program (map entry_of l.entries.items) (registers_of l.registers) l.rest

abbrev pub decreases-loop-opcode : goal.decreases-loop-opcode
decreases-loop-opcode l = length l.rest
