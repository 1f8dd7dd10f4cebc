use Rattle.rv_runs_theorems.proofs.SimulationLemmas.{agreement}
use Rattle.rv_runs_theorems.proofs.law.runs_agree.Goals as goal

pub returns : goal.returns
returns c = agreement
