use Rattle.rv_unique_theorems.proofs.NotTooLongLemmas.{not_too_long}
use Rattle.rv_unique_theorems.proofs.object_law.objects_are_not_too_long.Goals as goal

pub returns : goal.returns
returns c = λ statements o f h long. not_too_long statements o h f long
