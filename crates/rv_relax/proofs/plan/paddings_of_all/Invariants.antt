use Rattle.std.proofs.Common.{◌≡◌, ◌++◌, map, drop}
use Rattle.rv_relax.specs.Kept.{kept_in, moves_of}
use Rattle.rv_relax.proofs.plan.paddings_of_all.Given as goal

-- those so far, and those of the objects that are left, are all of them
abbrev pub invariant-loop-object : goal.invariant-loop-object
invariant-loop-object l =
    map (λ f. map moves_of f.items) l.plans.items ++ map (λ o. map kept_in o.sections.items) (drop l.object-index l.objects)
    ≡ map (λ o. map kept_in o.sections.items) l.objects
