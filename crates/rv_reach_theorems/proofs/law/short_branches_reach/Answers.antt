use Rattle.rv_reach_theorems.proofs.BranchedLemmas.{short_branches_reach}
use Rattle.rv_reach_theorems.proofs.law.short_branches_reach.Goals as goal

pub returns : goal.returns
returns c = short_branches_reach
