use Rattle.rv_runs_theorems.proofs.PlatformLemmas.{linked_agrees_on}
use Rattle.rv_runs_theorems.proofs.law.linked_runs_agree_on.Goals as goal

pub returns : goal.returns
returns c = linked_agrees_on
