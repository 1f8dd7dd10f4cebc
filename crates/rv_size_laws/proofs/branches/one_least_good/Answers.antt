use Rattle.rv_size_laws.proofs.WideningLemmas.{one_least_good}
use Rattle.rv_size_laws.proofs.branches.one_least_good.Goals as goal

pub returns : goal.returns
returns c = one_least_good
