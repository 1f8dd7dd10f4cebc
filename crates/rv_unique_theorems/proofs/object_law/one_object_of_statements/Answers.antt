use Rattle.rv_unique_theorems.proofs.OneObjectLemmas.{one_object}
use Rattle.rv_unique_theorems.proofs.object_law.one_object_of_statements.Goals as goal

pub returns : goal.returns
returns c = λ statements o p names h k. one_object statements names o p h k
