use Rattle.rv_map.proofs.CuttingLemmas.{cut_nowhere, cut_slices}
use Rattle.rv_map.proofs.numeral.cut.Goals as goal

pub returns-in_err-at-clause-exact : goal.returns-in_err-at-clause-exact
returns-in_err-at-clause-exact c = rw c.from_residual.ensures (cut_nowhere c.args.end c.args.bytes.now c.in_err-at.ensures)

pub returns-clause-exact : goal.returns-clause-exact
returns-clause-exact c = cut_slices c.args.end c.args.bytes.now c.in_ok-at.at c.in_ok-at.ensures
