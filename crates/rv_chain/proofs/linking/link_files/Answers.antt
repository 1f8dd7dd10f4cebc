use Rattle.std.proofs.Common.{◌≡◌, length, map, sym, subst}
use Rattle.std.proofs.lemmas.List.{length-map}
use Rattle.rv_statement.specs.View.{now_of}
use Rattle.rv_image.specs.Views.{linked_of}
use Rattle.rv_object_types.specs.View.{object_of}
use Rattle.rv_link_laws.specs.TextStart.{AreWithin}
use Rattle.rv_link_laws.specs.WithMap.{IsProgramWith}
use Rattle.rv_link_laws.specs.Refusals.{HasNoProgram}
use Rattle.rv_chain.specs.LinkRefusals.{AreUnlinkable}
use Rattle.rv_chain.proofs.GatheredLemmas.{err_given}
use Rattle.rv_chain.proofs.UnreadLemmas.{link_unlinkable}
use Rattle.rv_chain.proofs.linking.link_files.Goals as goal

pub returns-in_err-linked-clause-refuses : goal.returns-in_err-linked-clause-refuses
returns-in_err-linked-clause-refuses c =
    let files = map now_of c.args.files.now in
    let bounds = c.args.options.bounds in
    let relax = c.args.options.relax in
    let gc = c.args.options.gc in
    let os = map object_of c.in_ok-read.read.items in
    let refused : HasNoProgram os bounds relax gc c.in_err-linked.field-0.0 = subst (λ l. HasNoProgram (map object_of l) bounds relax gc c.in_err-linked.field-0.0) c.deref.ensures.value c.in_err-linked.ensures.refuses in
    err_given c.from_residual-in_err-linked.result (AreUnlinkable files bounds relax gc) _ c.from_residual-in_err-linked.ensures.1
    (λ f is. subst (AreUnlinkable files bounds relax gc) (sym is) (link_unlinkable files bounds relax gc c.in_err-linked.field-0.0 (os, c.in_ok-read.ensures.objects, refused)))

pub returns-clause-program : goal.returns-clause-program
returns-clause-program c =
    let files = map now_of c.args.files.now in
    let bounds = c.args.options.bounds in
    let relax = c.args.options.relax in
    let gc = c.args.options.gc in
    let os = map object_of c.in_ok-read.read.items in
    let l = linked_of c.in_ok-linked.linked in
    let links : IsProgramWith os bounds relax gc c.args.with_map l = subst (λ items. IsProgramWith (map object_of items) bounds relax gc c.args.with_map l) c.deref.ensures.value c.in_ok-linked.ensures.links in
    let n : length files ≡ length c.args.files.now = length-map c.args.files.now now_of in
    (subst (λ k. AreWithin k bounds) (sym n) c.in_ok-within_limits.ensures.within, (os, c.in_ok-read.ensures.objects, links))
