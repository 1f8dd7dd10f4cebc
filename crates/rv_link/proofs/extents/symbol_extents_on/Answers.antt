use Rattle.std.proofs.Common.{Bool, map, sym, subst}
use Rattle.std.proofs.lemmas.Result.{err_from_is_err_and, IfOk-weaker, IfErr-weaker}
use Rattle.std.specs.Prelude.{IfOk, IfErr}
use Rattle.rv_object_types.specs.View.{object_of}
use Rattle.rv_addresses.specs.Extents.{sizes_in}
use Rattle.rv_link.specs.Extents.{AreExtents}
use Rattle.rv_link.specs.Left.{HasNoLink}
use Rattle.rv_link_laws.specs.Refusals.{HasNoProgram}
use Rattle.rv_link.proofs.ExtentsLemmas.{uncollected}
use Rattle.rv_link.proofs.LeftLemmas.{past, doubled, none_unlinked}
use Rattle.rv_link.proofs.extents.symbol_extents_on.Goals as goal

pub returns-in_err-within_limits-clause-refuses : goal.returns-in_err-within_limits-clause-refuses
returns-in_err-within_limits-clause-refuses c =
    let found = err_from_is_err_and c.from_residual.result c.from_residual.ensures.1 in
    let o = c.args.options in
    rw (found.1, found.2) (past c.args.objects.now o.bounds o.relax o.gc c.in_err-within_limits.field-0.0 c.in_err-within_limits.ensures.refuses)

pub returns-in_err-names-clause-refuses : goal.returns-in_err-names-clause-refuses
returns-in_err-names-clause-refuses c =
    let found = err_from_is_err_and c.from_residual-in_err-names.result c.from_residual-in_err-names.ensures.1 in
    let o = c.args.options in
    rw (found.1, found.2) (doubled c.args.objects.now o.bounds o.relax o.gc c.in_err-names.field-0.0 c.in_ok-within_limits.ensures.within c.in_err-names.ensures.refuses)

pub returns-then-options-clause-extents : goal.returns-then-options-clause-extents
returns-then-options-clause-extents c =
    let os = map object_of c.args.objects.now in
    let o = c.args.options in
    subst (λ (gc : Bool). IfOk c.extents_collected.result (λ files. AreExtents os (sizes_in c.args.sizes.now) o.bounds o.relax gc (map (λ row. row.items) files.items))) (sym c.if-options.true) c.extents_collected.ensures.extents

pub returns-then-options-clause-refuses : goal.returns-then-options-clause-refuses
returns-then-options-clause-refuses c =
    let os = map object_of c.args.objects.now in
    let o = c.args.options in
    subst (λ (gc : Bool). IfErr c.extents_collected.result (HasNoProgram os o.bounds o.relax gc)) (sym c.if-options.true) c.extents_collected.ensures.refuses

pub returns-clause-extents : goal.returns-clause-extents
returns-clause-extents c =
    let os = map object_of c.args.objects.now in
    let o = c.args.options in
    let sizes = sizes_in c.args.sizes.now in
    subst (λ (gc : Bool). IfOk c.extents_left.result (λ files. AreExtents os sizes o.bounds o.relax gc (map (λ row. row.items) files.items))) (sym c.if-options.false)
    (IfOk-weaker c.extents_left.result _ _ (λ files h. uncollected os sizes o.bounds o.relax (map (λ row. row.items) files.items) h) c.extents_left.ensures.extents)

pub returns-clause-refuses : goal.returns-clause-refuses
returns-clause-refuses c =
    let os = map object_of c.args.objects.now in
    let o = c.args.options in
    subst (λ (gc : Bool). IfErr c.extents_left.result (HasNoProgram os o.bounds o.relax gc)) (sym c.if-options.false)
    (IfErr-weaker c.extents_left.result (HasNoLink os o.bounds o.relax) _ (λ fault h. none_unlinked os o.bounds o.relax fault h) c.extents_left.ensures.refuses)
