use Rattle.rv_value_theorems.proofs.ConstantsLemmas.{constant_is, constant_faulty}
use Rattle.rv_value_theorems.proofs.laws.plain_constant.Goals as goal

pub returns-clause-is : goal.returns-clause-is
returns-clause-is c = constant_is

pub returns-clause-faulty : goal.returns-clause-faulty
returns-clause-faulty c = constant_faulty
