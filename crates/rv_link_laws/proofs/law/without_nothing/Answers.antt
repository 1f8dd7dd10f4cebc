use Rattle.rv_link_laws.proofs.WithoutLemmas.{without_none}
use Rattle.rv_link_laws.proofs.law.without_nothing.Goals as goal

pub returns : goal.returns
returns c = without_none
