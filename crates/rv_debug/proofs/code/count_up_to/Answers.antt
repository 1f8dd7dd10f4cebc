use Rattle.std.proofs.Common.{arith}
use Rattle.rv_debug.proofs.CodeLemmas.{files_later, files_so_far}
use Rattle.rv_debug.proofs.code.count_up_to.Goals as goal

pub loop-index-preserved : goal.loop-index-preserved
loop-index-preserved c =
    files_so_far c.args.file c.args.rows.now c.loop-index.index (record { file = 0; line = 0; ordinal = 0; address = 0; bytes = 0; instructions = 0 })
    c.loop-index-test.true (omega arith) c.loop-index.invariant

pub returns-then-rows-index-clause-later : goal.returns-then-rows-index-clause-later
returns-then-rows-index-clause-later c =
    files_later c.args.file c.args.rows.now c.loop-index.index (record { file = 0; line = 0; ordinal = 0; address = 0; bytes = 0; instructions = 0 })
    c.requires c.loop-index-test.true (omega arith)
