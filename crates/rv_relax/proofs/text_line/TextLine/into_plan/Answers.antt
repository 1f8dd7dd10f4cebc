use Rattle.std.proofs.Common.{List, true, map, subst, sym}
use Rattle.std.proofs.lemmas.Result.{IfOk-weaker}
use Rattle.rv_shorten.specs.declared.object.ShortObject.{ShortObject}
use Rattle.rv_shorten.specs.View.{moves_by_section, short_object_of}
use Rattle.rv_relax.specs.Plan.{RelaxesBy, objects_of_line, planned_cuts, planned_objects}
use Rattle.rv_relax.proofs.text_line.TextLine.into_plan.Goals as goal

pub returns-clause-cuts : goal.returns-clause-cuts
returns-clause-cuts c =
    let os = objects_of_line c.args.self in
    IfOk-weaker c.behind.result _ (λ plan. RelaxesBy true os (planned_objects plan) (planned_cuts plan))
    (λ plan is. subst (λ (l : List ShortObject). RelaxesBy true os (map short_object_of l) (map moves_by_section l)) (sym is) c.in_ok-objects.ensures.cuts)
    c.behind.ensures.objects
