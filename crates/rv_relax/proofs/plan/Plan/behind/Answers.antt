use Rattle.std.proofs.Common.{refl, map, ap, ◌∙◌}
use Rattle.rv_shorten.specs.declared.object.ShortObject.{ShortObject}
use Rattle.rv_relax.specs.Kept.{kept_in}
use Rattle.rv_relax.specs.Plan.{rounds_of}
use Rattle.rv_relax.proofs.plan.Plan.behind.Goals as goal

pub invariant_of-result : goal.invariant_of-result
invariant_of-result c =
    record { planned = c.in_ok-paddings.ensures ∙ ap (map (λ (o : ShortObject). map kept_in o.sections.items)) c.as_slice.ensures.value }

pub returns-clause-rounds : goal.returns-clause-rounds
unfolding rounds_of
returns-clause-rounds c = refl
