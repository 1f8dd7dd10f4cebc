use Rattle.rv_unique_theorems.proofs.WholeLemmas.{one_refusal}
use Rattle.rv_unique_theorems.proofs.link_law.refused_for_one_reason.Goals as goal

pub returns : goal.returns
returns c = λ os bounds relax gc f g even below. one_refusal os bounds relax gc f g even below
