use Rattle.rv_unique_theorems.proofs.OneFaultLemmas.{one_fault}
use Rattle.rv_unique_theorems.proofs.object_law.statements_have_one_fault.Goals as goal

pub returns : goal.returns
returns c = one_fault
