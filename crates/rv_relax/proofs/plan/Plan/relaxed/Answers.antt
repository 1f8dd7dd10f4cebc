use Rattle.std.proofs.Common.{true, subst, sym, ◌∙◌}
use Rattle.std.proofs.lemmas.Result.{IfOk-weaker}
use Rattle.rv_relax.specs.CallSizes.{AreCallSizes}
use Rattle.rv_relax.specs.Plan.{objects_of_line}
use Rattle.rv_relax.specs.Told.{told_objects}
use Rattle.rv_relax.specs.declared.told.Counted.TheVariants.{Calls}
use Rattle.rv_relax.proofs.CallSizesLemmas.{if_both, told_whole}
use Rattle.rv_relax.proofs.plan.Plan.relaxed.Goals as goal

pub returns-then-not-relax-clause-calls : goal.returns-then-not-relax-clause-calls
returns-then-not-relax-clause-calls c =
    let os = objects_of_line c.args.text_line.now in
    let given = c.objects.ensures in
    if_both c.whole.result _ _ (λ plan. AreCallSizes c.args.relax os (told_objects Calls plan.objects.items))
    (λ plan whole same. subst (λ relax. AreCallSizes relax os (told_objects Calls plan.objects.items)) (sym c.if-not-relax.true)
    (told_whole os plan.objects.items (whole ∙ given) (same ∙ given)))
    c.whole.ensures.whole c.whole.ensures.same

pub returns-clause-calls : goal.returns-clause-calls
returns-clause-calls c =
    let os = objects_of_line c.args.text_line.now in
    IfOk-weaker c.behind.result _ (λ plan. AreCallSizes c.args.relax os (told_objects Calls plan.objects.items))
    (λ plan is. subst (λ relax. AreCallSizes relax os (told_objects Calls plan.objects.items)) (sym c.if-not-relax.false)
    (subst (λ l. AreCallSizes true os (told_objects Calls l)) (sym is) c.in_ok-objects.ensures.calls))
    c.behind.ensures.objects
