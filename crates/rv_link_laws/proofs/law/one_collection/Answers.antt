use Rattle.rv_link_laws.proofs.DanglingLemmas.{some_collected, one_collected}
use Rattle.rv_link_laws.proofs.law.one_collection.Goals as goal

pub returns-clause-some : goal.returns-clause-some
returns-clause-some c = some_collected

pub returns-clause-one : goal.returns-clause-one
returns-clause-one c = one_collected
