use Rattle.rv_runs_theorems.proofs.PlatformLemmas.{virt_agrees}
use Rattle.rv_runs_theorems.proofs.law.virt_runs_agree.Goals as goal

pub returns : goal.returns
returns c = virt_agrees
