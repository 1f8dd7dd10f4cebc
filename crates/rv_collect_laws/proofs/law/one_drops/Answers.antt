use Rattle.rv_collect_laws.proofs.MarksLemmas.{some_drops, same_drops, drops_within, rest_least, alike_drops}
use Rattle.rv_collect_laws.proofs.law.one_drops.Goals as goal

pub returns-clause-some : goal.returns-clause-some
returns-clause-some c = some_drops

pub returns-clause-one : goal.returns-clause-one
returns-clause-one c = same_drops

pub returns-clause-within : goal.returns-clause-within
returns-clause-within c = drops_within

pub returns-clause-rest : goal.returns-clause-rest
returns-clause-rest c = rest_least

pub returns-clause-alike : goal.returns-clause-alike
returns-clause-alike c = alike_drops
