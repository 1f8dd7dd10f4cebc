use Rattle.std.proofs.Common.{◌≡◌, length, map, sym, subst, ◌∙◌}
use Rattle.std.proofs.lemmas.List.{length-map}
use Rattle.std.proofs.lemmas.Result.{err_from_is_err_and, IfOk-weaker, IfErr-weaker}
use Rattle.rv_object_types.specs.View.{object_of}
use Rattle.rv_relax.specs.Plan.{planned_objects}
use Rattle.rv_names.proofs.AlikeLemmas.{still_names}
use Rattle.rv_addresses.specs.Extents.{sizes_in}
use Rattle.rv_link.specs.Left.{HasNoLink}
use Rattle.rv_link_laws.specs.TextStart.{AreWithin}
use Rattle.rv_link_laws.specs.Refusals.{IsUnlinked}
use Rattle.rv_link.proofs.ExtentsLemmas.{planned}
use Rattle.rv_link.proofs.LeftLemmas.{alike, out_of_memory}
use Rattle.rv_link.proofs.extents.extents_left.Goals as goal

pub returns-in_err-plan-clause-refuses : goal.returns-in_err-plan-clause-refuses
returns-in_err-plan-clause-refuses c =
    let found = err_from_is_err_and c.from_residual.result c.from_residual.ensures.1 in
    let os = map object_of c.args.objects.now in
    rw (found.1, found.2)
    (subst (HasNoLink os c.args.options.bounds c.args.options.relax) (sym c.in_err-plan.ensures.refuses) (out_of_memory c.args.objects.now c.args.options.bounds c.args.options.relax))

pub extents_by_plan-requires-clause-within : goal.extents_by_plan-requires-clause-within
extents_by_plan-requires-clause-within c =
    let os = map object_of c.args.objects.now in
    let left = planned_objects c.in_ok-plan.plan in
    let many : length left ≡ length c.args.objects.now = (alike c.args.options.relax os left c.in_ok-plan.ensures.relaxes).many ∙ length-map c.args.objects.now object_of in
    subst (λ n. AreWithin n c.args.options.bounds) (sym many) c.requires.within

pub extents_by_plan-requires-clause-names : goal.extents_by_plan-requires-clause-names
extents_by_plan-requires-clause-names c =
    let os = map object_of c.args.objects.now in
    let left = planned_objects c.in_ok-plan.plan in
    still_names os left c.args.names.now (alike c.args.options.relax os left c.in_ok-plan.ensures.relaxes).seen c.requires.names

pub returns-clause-extents : goal.returns-clause-extents
returns-clause-extents c =
    let o = c.args.options in
    IfOk-weaker c.extents_by_plan.result _ _
    (λ files h. planned (map object_of c.args.objects.now) (sizes_in c.args.sizes.now) o.bounds o.relax c.in_ok-plan.plan (map (λ row. row.items) files.items) c.in_ok-plan.ensures.whole c.in_ok-plan.ensures.cuts h)
    c.extents_by_plan.ensures.extents

pub returns-clause-refuses : goal.returns-clause-refuses
returns-clause-refuses c =
    let left = planned_objects c.in_ok-plan.plan in
    IfErr-weaker c.extents_by_plan.result (IsUnlinked left c.args.options.bounds)
    (HasNoLink (map object_of c.args.objects.now) c.args.options.bounds c.args.options.relax)
    (λ fault unlinked. record { left = left; relaxed = c.in_ok-plan.ensures.relaxes; unlinked = unlinked })
    c.extents_by_plan.ensures.refuses
