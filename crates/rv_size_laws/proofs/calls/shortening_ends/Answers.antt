use Rattle.rv_size_laws.proofs.StepsLemmas.{steps_few, rounds_few}
use Rattle.rv_size_laws.proofs.ShorteningLemmas.{shortening}
use Rattle.rv_size_laws.proofs.calls.shortening_ends.Goals as goal

pub returns-clause-shortenings : goal.returns-clause-shortenings
returns-clause-shortenings c sites = steps_few (shortening sites)

pub returns-clause-rounds : goal.returns-clause-rounds
returns-clause-rounds c sites = rounds_few (shortening sites)
