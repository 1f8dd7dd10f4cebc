use Rattle.rv_size_laws.proofs.StepsLemmas.{steps_few, rounds_few}
use Rattle.rv_size_laws.proofs.WideningLemmas.{widening}
use Rattle.rv_size_laws.proofs.branches.widening_ends.Goals as goal

pub returns-clause-widenings : goal.returns-clause-widenings
returns-clause-widenings c items = steps_few (widening items)

pub returns-clause-rounds : goal.returns-clause-rounds
returns-clause-rounds c items = rounds_few (widening items)
