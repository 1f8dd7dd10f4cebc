use Rattle.std.proofs.Common.{◌∙◌, sym, arith}
use Rattle.rv_debug.proofs.CodeLemmas.{by_file_done, by_file_more}
use Rattle.rv_debug.proofs.code.are_by_file.Goals as goal

pub loop-row-preserved : goal.loop-row-preserved
loop-row-preserved c =
    c.loop-row.invariant
    ∙ by_file_more c.loop-row.file c.args.rows.now c.loop-row.row-index (record { file = 0; line = 0; ordinal = 0; address = 0; bytes = 0; instructions = 0 })
    c.loop-row-test.true (omega arith)

pub returns : goal.returns
returns c = sym (c.loop-row.invariant ∙ by_file_done c.loop-row.file c.args.rows.now c.loop-row.row-index c.loop-row-test.false)
