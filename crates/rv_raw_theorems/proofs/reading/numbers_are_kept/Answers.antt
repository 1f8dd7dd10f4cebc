use Rattle.rv_raw_theorems.proofs.PrintedValuesLemmas.{number_constant, distance_value, addend_is, distance_is}
use Rattle.rv_raw_theorems.proofs.reading.numbers_are_kept.Goals as goal

pub returns-clause-constants : goal.returns-clause-constants
returns-clause-constants c = number_constant

pub returns-clause-targets : goal.returns-clause-targets
returns-clause-targets c = distance_value

pub returns-clause-addends : goal.returns-clause-addends
returns-clause-addends c = addend_is

pub returns-clause-distances : goal.returns-clause-distances
returns-clause-distances c = distance_is
