use Rattle.std.proofs.Common.{drop}
use Rattle.rv_debug.specs.Writing.{WritesBefore}
use Rattle.rv_debug.proofs.program.put_line_program.Given as goal

abbrev pub invariant-loop-index : goal.invariant-loop-index
invariant-loop-index l = WritesBefore l.fn.out.items l.out.items l.rows (drop l.index l.rows) l.before
