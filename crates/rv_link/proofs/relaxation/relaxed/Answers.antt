use Rattle.std.proofs.Common.{Bool, true, List, map, subst, sym}
use Rattle.rv_object_laws.specs.Object.{Object}
use Rattle.rv_object_types.specs.View.{object_of}
use Rattle.rv_relax.specs.Plan.{RelaxesBy, planned_cuts, planned_objects}
use Rattle.rv_link.proofs.relaxation.relaxed.Goals as goal

pub returns-then-not-relax-clause-cuts : goal.returns-then-not-relax-clause-cuts
returns-then-not-relax-clause-cuts c =
    let os = map object_of c.args.objects.now in
    let plan = c.in_ok-whole.field-0 in
    subst (λ (r : Bool). RelaxesBy r os (planned_objects plan) (planned_cuts plan)) (sym c.if-not-relax.true) (c.in_ok-whole.ensures.same, c.in_ok-whole.ensures.cuts)

pub returns-clause-cuts : goal.returns-clause-cuts
returns-clause-cuts c =
    let os = map object_of c.args.objects.now in
    let plan = c.in_ok-into_plan.field-0 in
    subst (λ (r : Bool). RelaxesBy r os (planned_objects plan) (planned_cuts plan)) (sym c.if-not-relax.false)
    (subst (λ (l : List Object). RelaxesBy true l (planned_objects plan) (planned_cuts plan)) c.in_ok-placed.ensures c.in_ok-into_plan.ensures.cuts)
