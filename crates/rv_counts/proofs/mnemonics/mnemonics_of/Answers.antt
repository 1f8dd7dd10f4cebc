use Rattle.std.proofs.Common.{refl, arith}
use Rattle.rv_counts.specs.Sums.{executed_in, counts_mnemonic, of_mnemonic}
use Rattle.rv_counts.proofs.SumsLemmas.{list_more, list_whole}
use Rattle.rv_counts.proofs.mnemonics.mnemonics_of.Goals as goal

pub loop-row-preserved : goal.loop-row-preserved
loop-row-preserved c =
    list_more counts_mnemonic (λ t. t.count) of_mnemonic (λ row. row.count) c.args.rows.now (λ key. executed_in c.args.rows.now (of_mnemonic key)) c.loop-row.row-index c.row-item.result _ _ c.loop-row-test.true c.row-item.is c.in_ok-list_row.ensures.once c.in_ok-list_row.ensures.counted c.loop-row.invariant

pub returns : goal.returns
returns c =
    list_whole counts_mnemonic (λ t. t.count) of_mnemonic (λ row. row.count) c.args.rows.now (λ key. executed_in c.args.rows.now (of_mnemonic key)) c.loop-row.row-index c.loop-row.executed.items (omega (arith, c.loop-row-test.false)) c.loop-row.invariant (λ key. refl)
