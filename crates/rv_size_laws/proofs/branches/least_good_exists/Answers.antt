use Rattle.rv_size_laws.proofs.WideningLemmas.{least_good_exists}
use Rattle.rv_size_laws.proofs.branches.least_good_exists.Goals as goal

pub returns : goal.returns
returns c = least_good_exists
