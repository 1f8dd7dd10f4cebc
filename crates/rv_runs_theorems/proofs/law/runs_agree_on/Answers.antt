use Rattle.rv_runs_theorems.proofs.SimulationLemmas.{agreement_on}
use Rattle.rv_runs_theorems.proofs.law.runs_agree_on.Goals as goal

pub returns : goal.returns
returns c = agreement_on
