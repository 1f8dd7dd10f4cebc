use Rattle.rv_runs_theorems.proofs.PlatformLemmas.{usual_on_stack}
use Rattle.rv_runs_theorems.proofs.law.sources_run_as_usual.Goals as goal

pub returns : goal.returns
returns c = usual_on_stack
