use Rattle.std.proofs.Common.{◌+◌}
use Rattle.std.proofs.lemmas.List.{drop_all, drop_more, take_rest}
use Rattle.rv_debug.proofs.RowLemmas.{joins_next, none_written, one_more, wrote_program}
use Rattle.rv_debug.proofs.program.put_line_program.Goals as goal

pub loop-index-init : goal.loop-index-init
loop-index-init c = none_written _ _

pub put_row-requires : goal.put_row-requires
put_row-requires c =
    joins_next c.loop-index.before _ _ _
    (drop_more c.args.rows.now c.loop-index.index (record { address = 0; bytes = 0; file = 0; line = 0 }) c.loop-index-test.true)
    c.loop-index.invariant.joins

pub loop-index-preserved : goal.loop-index-preserved
loop-index-preserved c =
    one_more _ _ _ _ c.args.rows.now _ _ _ _ c.loop-index.before c.in_ok-before.before
    (drop_more c.args.rows.now c.loop-index.index (record { address = 0; bytes = 0; file = 0; line = 0 }) c.loop-index-test.true)
    (take_rest c.args.rows.now (c.loop-index.index + 1)) c.loop-index.invariant c.in_ok-put_row.ensures c.in_ok-before.ensures.written c.in_ok-before.ensures.joins

pub returns : goal.returns
returns c =
    wrote_program _ _ c.args.rows.now _ c.loop-index.before
    (drop_all c.loop-index.index c.args.rows.now c.loop-index-test.false) c.loop-index.invariant
