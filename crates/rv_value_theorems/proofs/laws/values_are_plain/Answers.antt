use Rattle.rv_value_theorems.proofs.NumbersLemmas.{are_plain}
use Rattle.rv_value_theorems.proofs.laws.values_are_plain.Goals as goal

pub returns : goal.returns
returns c = are_plain
