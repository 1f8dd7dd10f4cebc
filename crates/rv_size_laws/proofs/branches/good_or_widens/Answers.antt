use Rattle.rv_size_laws.proofs.WideningLemmas.{good_or_widens}
use Rattle.rv_size_laws.proofs.branches.good_or_widens.Goals as goal

pub returns : goal.returns
returns c = good_or_widens
