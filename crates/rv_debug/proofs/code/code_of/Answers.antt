use Rattle.std.proofs.Common.{◌+◌, ◌≤◌, subst, sym}
use Rattle.std.specs.List.{AllByRecursion}
use Rattle.rv_debug.proofs.CodeLemmas.{code_done, code_more, code_within}
use Rattle.rv_debug.proofs.code.code_of.Goals as goal

pub loop-row-preserved : goal.loop-row-preserved
loop-row-preserved c =
    code_more c.args.text c.args.source c.args.rows.now c.loop-row.row-index (record { file = 0; line = 0; ordinal = 0; address = 0; bytes = 0; instructions = 0 })
    _ _ _ c.loop-row-test.true c.in_ok-put_row.ensures c.loop-row.invariant

pub returns-clause-within : goal.returns-clause-within
returns-clause-within c =
    subst (AllByRecursion (λ row. row.address + row.bytes ≤ c.args.text.end))
    (sym (code_done c.args.text c.args.source c.args.rows.now c.loop-row.row-index c.loop-row.code.items _ c.loop-row-test.false c.loop-row.invariant))
    (code_within c.args.text c.args.source c.args.rows.now)
