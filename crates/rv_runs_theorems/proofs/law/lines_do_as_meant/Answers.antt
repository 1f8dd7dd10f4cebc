use Rattle.rv_runs_theorems.proofs.ObligationsLemmas.{does}
use Rattle.rv_runs_theorems.proofs.law.lines_do_as_meant.Goals as goal

pub returns : goal.returns
returns c = does
