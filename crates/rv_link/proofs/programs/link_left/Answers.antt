use Rattle.std.proofs.Common.{◌≡◌, length, map, sym, subst, ◌∙◌}
use Rattle.std.proofs.lemmas.List.{length-map}
use Rattle.std.proofs.lemmas.Result.{err_from_is_err_and, IfOk-weaker, IfErr-weaker}
use Rattle.rv_object_types.specs.View.{object_of}
use Rattle.rv_image.specs.Views.{linked_of}
use Rattle.rv_relax.specs.Plan.{planned_objects}
use Rattle.rv_names.proofs.AlikeLemmas.{still_names}
use Rattle.rv_link.specs.Left.{HasNoLink, IsLinkOfLeft, IsLinkWith}
use Rattle.rv_link_laws.specs.TextStart.{AreWithin}
use Rattle.rv_link_laws.specs.Refusals.{IsUnlinked}
use Rattle.rv_link.proofs.LeftLemmas.{alike, out_of_memory}
use Rattle.rv_link.proofs.programs.link_left.Goals as goal

pub returns-in_err-plan-clause-refuses : goal.returns-in_err-plan-clause-refuses
returns-in_err-plan-clause-refuses c =
    let found = err_from_is_err_and c.from_residual.result c.from_residual.ensures.1 in
    let os = map object_of c.args.objects.now in
    rw (found.1, found.2)
    (subst (HasNoLink os c.args.options.bounds c.args.options.relax) (sym c.in_err-plan.ensures.refuses) (out_of_memory c.args.objects.now c.args.options.bounds c.args.options.relax))

pub link_by_plan-requires-clause-within : goal.link_by_plan-requires-clause-within
link_by_plan-requires-clause-within c =
    let os = map object_of c.args.objects.now in
    let left = planned_objects c.in_ok-plan.plan in
    let many : length left ≡ length c.args.objects.now = (alike c.args.options.relax os left c.in_ok-plan.ensures.relaxes).many ∙ length-map c.args.objects.now object_of in
    subst (λ n. AreWithin n c.args.options.bounds) (sym many) c.requires.within

pub link_by_plan-requires-clause-names : goal.link_by_plan-requires-clause-names
link_by_plan-requires-clause-names c =
    let os = map object_of c.args.objects.now in
    let left = planned_objects c.in_ok-plan.plan in
    still_names os left c.args.names.now (alike c.args.options.relax os left c.in_ok-plan.ensures.relaxes).seen c.requires.names

pub returns-clause-links : goal.returns-clause-links
returns-clause-links c =
    let os = map object_of c.args.objects.now in
    let left = planned_objects c.in_ok-plan.plan in
    let bounds = c.args.options.bounds in
    let drops = c.args.drops.items in
    let with_map = c.args.with_map in
    IfOk-weaker c.link_by_plan.result (λ l. IsLinkWith left bounds drops with_map (linked_of l)) (λ l. IsLinkOfLeft os bounds c.args.options.relax drops with_map (linked_of l))
    (λ l links. record { left = left; relaxed = c.in_ok-plan.ensures.relaxes; linked = links })
    c.link_by_plan.ensures.links

pub returns-clause-refuses : goal.returns-clause-refuses
returns-clause-refuses c =
    let left = planned_objects c.in_ok-plan.plan in
    IfErr-weaker c.link_by_plan.result (IsUnlinked left c.args.options.bounds)
    (HasNoLink (map object_of c.args.objects.now) c.args.options.bounds c.args.options.relax)
    (λ fault unlinked. record { left = left; relaxed = c.in_ok-plan.ensures.relaxes; unlinked = unlinked })
    c.link_by_plan.ensures.refuses
