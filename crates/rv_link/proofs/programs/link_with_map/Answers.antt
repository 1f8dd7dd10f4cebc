use Rattle.std.proofs.Common.{Bool, map, sym, subst}
use Rattle.std.proofs.lemmas.Result.{err_from_is_err_and, IfOk-weaker, IfErr-weaker}
use Rattle.std.specs.Prelude.{IfOk, IfErr}
use Rattle.rv_image.specs.Views.{linked_of}
use Rattle.rv_object_types.specs.View.{object_of}
use Rattle.rv_link.specs.Left.{HasNoLink, IsLinkOfLeft}
use Rattle.rv_link_laws.specs.WithMap.{IsProgramWith}
use Rattle.rv_link_laws.specs.Refusals.{HasNoProgram}
use Rattle.rv_link.proofs.LeftLemmas.{past, doubled, none_dropped, none_unlinked}
use Rattle.rv_link.proofs.programs.link_with_map.Goals as goal

pub returns-in_err-within_limits-clause-refuses : goal.returns-in_err-within_limits-clause-refuses
returns-in_err-within_limits-clause-refuses c =
    let found = err_from_is_err_and c.from_residual.result c.from_residual.ensures.1 in
    let o = c.args.options in
    rw (found.1, found.2) (past c.args.objects.now o.bounds o.relax o.gc c.in_err-within_limits.field-0.0 c.in_err-within_limits.ensures.refuses)

pub returns-in_err-names-clause-refuses : goal.returns-in_err-names-clause-refuses
returns-in_err-names-clause-refuses c =
    let found = err_from_is_err_and c.from_residual-in_err-names.result c.from_residual-in_err-names.ensures.1 in
    let o = c.args.options in
    rw (found.1, found.2) (doubled c.args.objects.now o.bounds o.relax o.gc c.in_err-names.field-0.0 c.in_ok-within_limits.ensures.within c.in_err-names.ensures.refuses)

pub returns-then-options-clause-links : goal.returns-then-options-clause-links
returns-then-options-clause-links c =
    let os = map object_of c.args.objects.now in
    let o = c.args.options in
    subst (λ (gc : Bool). IfOk c.link_collected.result (λ l. IsProgramWith os o.bounds o.relax gc c.args.with_map (linked_of l))) (sym c.if-options.true) c.link_collected.ensures.links

pub returns-then-options-clause-refuses : goal.returns-then-options-clause-refuses
returns-then-options-clause-refuses c =
    let os = map object_of c.args.objects.now in
    let o = c.args.options in
    subst (λ (gc : Bool). IfErr c.link_collected.result (HasNoProgram os o.bounds o.relax gc)) (sym c.if-options.true) c.link_collected.ensures.refuses

pub returns-clause-links : goal.returns-clause-links
returns-clause-links c =
    let os = map object_of c.args.objects.now in
    let o = c.args.options in
    subst (λ (gc : Bool). IfOk c.link_left.result (λ l. IsProgramWith os o.bounds o.relax gc c.args.with_map (linked_of l))) (sym c.if-options.false)
    (IfOk-weaker c.link_left.result (λ l. IsLinkOfLeft os o.bounds o.relax c.new.result.items c.args.with_map (linked_of l)) _ (λ l h. none_dropped os o.bounds o.relax c.new.result.items c.args.with_map (linked_of l) c.new.ensures.items h)
    c.link_left.ensures.links)

pub returns-clause-refuses : goal.returns-clause-refuses
returns-clause-refuses c =
    let os = map object_of c.args.objects.now in
    let o = c.args.options in
    subst (λ (gc : Bool). IfErr c.link_left.result (HasNoProgram os o.bounds o.relax gc)) (sym c.if-options.false)
    (IfErr-weaker c.link_left.result (HasNoLink os o.bounds o.relax) _ (λ fault h. none_unlinked os o.bounds o.relax fault h) c.link_left.ensures.refuses)
