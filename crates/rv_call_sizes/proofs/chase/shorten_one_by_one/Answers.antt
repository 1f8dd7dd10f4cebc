use Rattle.std.proofs.Common.{◌∙◌}
use Rattle.rv_size_laws.specs.Steps.{Unchanged}
use Rattle.rv_call_sizes.proofs.ChasingLemmas.{step_more}
use Rattle.rv_call_sizes.proofs.chase.shorten_one_by_one.Goals as goal

pub loop-init : goal.loop-init
loop-init c = record {
  same_length = c.in_ok-agenda.ensures;
  family = c.requires.family;
  sums = c.in_ok-sums.ensures;
  steps = (0, Unchanged);
}

pub loop-preserved : goal.loop-preserved
loop-preserved c = record {
  same_length = c.put.ensures ∙ (c.in-Some.ensures.same ∙ c.loop.invariant.same_length);
  family = c.visit.ensures.family;
  sums = c.visit.ensures.sums;
  steps = step_more c.loop.invariant.steps.1 c.visit.ensures.visit;
}
