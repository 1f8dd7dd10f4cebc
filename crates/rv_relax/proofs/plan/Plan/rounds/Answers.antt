use Rattle.std.proofs.Common.{rules}
use Rattle.rv_relax.specs.Plan.{rounds_of}
use Rattle.rv_relax.proofs.plan.Plan.rounds.Goals as goal

pub returns : goal.returns
unfolding rounds_of
returns c = search rules
