use Rattle.rv_runs_theorems.proofs.ContentsLemmas.{linked_agrees}
use Rattle.rv_runs_theorems.proofs.law.linked_runs_agree.Goals as goal

pub returns : goal.returns
returns c = linked_agrees
