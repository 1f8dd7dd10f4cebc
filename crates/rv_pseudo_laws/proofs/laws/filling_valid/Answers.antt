use Rattle.rv_pseudo_laws.proofs.FillingLemmas.{filling_valid, filled_valid}
use Rattle.rv_pseudo_laws.proofs.laws.filling_valid.Goals as goal

pub returns-clause-one : goal.returns-clause-one
returns-clause-one c = filling_valid

pub returns-clause-all : goal.returns-clause-all
returns-clause-all c = filled_valid
