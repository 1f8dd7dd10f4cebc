use Rattle.rv_size_laws.proofs.WideningLemmas.{widened_least}
use Rattle.rv_size_laws.proofs.branches.widening_ends_at_the_least.Goals as goal

pub returns : goal.returns
returns c = widened_least
