use Rattle.rv_reach_theorems.proofs.ReachedLemmas.{short_calls_reach}
use Rattle.rv_reach_theorems.proofs.law.short_calls_reach.Goals as goal

pub returns : goal.returns
returns c = short_calls_reach
