use Rattle.std.proofs.Common.{◌≡◌, length, map, sym, subst}
use Rattle.std.proofs.lemmas.List.{length-map}
use Rattle.rv_statement.specs.View.{now_of}
use Rattle.rv_image.specs.Views.{linked_of}
use Rattle.rv_object_types.specs.View.{object_of}
use Rattle.rv_link_laws.specs.TextStart.{AreWithin}
use Rattle.rv_link_laws.specs.WithMap.{IsProgramWith}
use Rattle.rv_link_laws.specs.Refusals.{HasNoProgram}
use Rattle.rv_chain.specs.Refusals.{AreUnlinked, IsRefusedFor}
use Rattle.rv_chain.proofs.GatheredLemmas.{err_given, gathered, link_refused, short_forms_reach}
use Rattle.rv_chain.proofs.building.linked.Goals as goal

pub returns-in_err-linked-clause-refuses : goal.returns-in_err-linked-clause-refuses
returns-in_err-linked-clause-refuses c =
    let texts = map now_of c.args.sources.now in
    let bounds = c.args.options.bounds in
    let relax = c.args.options.relax in
    let gc = c.args.options.gc in
    let os = map object_of c.in_ok-objects.objects.items in
    let refused : HasNoProgram os bounds relax gc c.in_err-linked.field-0.0 = subst (λ l. HasNoProgram (map object_of l) bounds relax gc c.in_err-linked.field-0.0) c.deref.ensures.value c.in_err-linked.ensures.refuses in
    let g = gathered texts os c.in_ok-objects.ensures.objects in
    let unlinked : AreUnlinked texts bounds relax gc c.in_err-linked.field-0.0 = record {
      objects = c.in_ok-objects.objects.items;
      are = c.in_ok-objects.ensures.objects;
      unlinked = refused;
      sources = g.0;
      read = g.1;
      reached = short_forms_reach c.short_calls_reach.ensures c.short_branches_reach.ensures g.0 c.in_ok-objects.objects.items refused.drops refused.left bounds relax g.2 refused.leaves.relaxed c.in_ok-within_limits.ensures.within.1;
    } in
    err_given c.from_residual-in_err-linked.result (IsRefusedFor texts bounds relax gc) _ c.from_residual-in_err-linked.ensures.1
    (λ f is. subst (IsRefusedFor texts bounds relax gc) (sym is) (link_refused texts bounds relax gc c.in_err-linked.field-0.0 unlinked))

pub returns-clause-program : goal.returns-clause-program
returns-clause-program c =
    let texts = map now_of c.args.sources.now in
    let os = map object_of c.in_ok-objects.objects.items in
    let bounds = c.args.options.bounds in
    let relax = c.args.options.relax in
    let gc = c.args.options.gc in
    let l = linked_of c.in_ok-linked.linked in
    let g = gathered texts os c.in_ok-objects.ensures.objects in
    let with : IsProgramWith os bounds relax gc c.args.with_map l = subst (λ items. IsProgramWith (map object_of items) bounds relax gc c.args.with_map l) c.deref.ensures.value c.in_ok-linked.ensures.links in
    record {
      whole = with.whole;
      program = record {
        sources = g.0;
        read = g.1;
        linked = c.objects_of_sources_link.ensures g.0 os bounds relax gc with.whole g.2 with.program;
        flag = c.linked_objects_are_flagged.ensures g.0 os bounds relax gc with.whole g.2 with.program;
      };
      links = (os, c.in_ok-objects.ensures.objects, with.program);
      shown = with.shown;
    }

pub returns-clause-good : goal.returns-clause-good
returns-clause-good c =
    let texts = map now_of c.args.sources.now in
    let n : length texts ≡ length c.args.sources.now = length-map c.args.sources.now now_of in
    (subst (λ k. AreWithin k c.args.options.bounds) (sym n) c.in_ok-within_limits.ensures.within, (map object_of c.in_ok-objects.objects.items, c.in_ok-objects.ensures.objects))
