use Rattle.rv_value_theorems.proofs.FormsLemmas.{sorted_form}
use Rattle.rv_value_theorems.proofs.laws.sorted_form.Goals as goal

pub returns : goal.returns
returns c = sorted_form
