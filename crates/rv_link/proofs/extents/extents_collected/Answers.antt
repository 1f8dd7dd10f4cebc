use Rattle.std.proofs.Common.{◌≡◌, ◌∙◌, length, true, map, sym, ap, subst}
use Rattle.std.proofs.lemmas.List.{length-map}
use Rattle.std.proofs.lemmas.Result.{err_from_is_err_and, IfOk-weaker, IfErr-weaker}
use Rattle.rv_object_types.specs.View.{object_of}
use Rattle.rv_link_laws.specs.Without.{without}
use Rattle.rv_collect.specs.Marks.{drops_of}
use Rattle.rv_names.specs.Names.{IsNames}
use Rattle.rv_names.proofs.AlikeLemmas.{names_left}
use Rattle.rv_addresses.specs.Extents.{sizes_in}
use Rattle.rv_fault.specs.declared.link_fault.LinkFault.TheVariants.{OutOfMemory}
use Rattle.rv_link.specs.Extents.{AreExtentsLeft}
use Rattle.rv_link.specs.Left.{HasNoLink}
use Rattle.rv_link_laws.specs.TextStart.{AreWithin}
use Rattle.rv_link_laws.proofs.WithoutLemmas.{as_many_objects}
use Rattle.rv_link.proofs.LeftLemmas.{doubled, some_unlinked}
use Rattle.rv_link.proofs.extents.extents_collected.Goals as goal

pub returns-in_err-collection-clause-refuses : goal.returns-in_err-collection-clause-refuses
returns-in_err-collection-clause-refuses c =
    let found = err_from_is_err_and c.from_residual.result c.from_residual.ensures.1 in
    let o = c.args.options in
    rw (found.1, found.2) (doubled c.args.objects.now o.bounds o.relax true OutOfMemory c.requires.within tt)

pub returns-in_err-kept-clause-refuses : goal.returns-in_err-kept-clause-refuses
returns-in_err-kept-clause-refuses c =
    let found = err_from_is_err_and c.from_residual-in_err-kept.result c.from_residual-in_err-kept.ensures.1 in
    let o = c.args.options in
    rw (found.1, found.2) (doubled c.args.objects.now o.bounds o.relax true OutOfMemory c.requires.within tt)

pub extents_left-requires-clause-within : goal.extents_left-requires-clause-within
extents_left-requires-clause-within c =
    let os = map object_of c.args.objects.now in
    let kept = c.in_ok-kept.kept.items in
    let drops = drops_of os c.in_ok-collection.collection in
    let many : length c.deref.result.now ≡ length c.args.objects.now =
    ap length c.deref.ensures.value ∙ sym (length-map kept object_of) ∙ ap length c.in_ok-kept.ensures ∙ as_many_objects drops os ∙ length-map c.args.objects.now object_of in
    subst (λ n. AreWithin n c.args.options.bounds) (sym many) c.requires.within

pub extents_left-requires-clause-names : goal.extents_left-requires-clause-names
extents_left-requires-clause-names c =
    let os = map object_of c.args.objects.now in
    let drops = drops_of os c.in_ok-collection.collection in
    let is = ap (map object_of) c.deref.ensures.value ∙ c.in_ok-kept.ensures in
    subst (λ l. IsNames l c.args.names.now) (sym is) (names_left drops os c.args.names.now c.requires.names)

pub returns-clause-extents : goal.returns-clause-extents
returns-clause-extents c =
    let os = map object_of c.args.objects.now in
    let o = c.args.options in
    let drops = drops_of os c.in_ok-collection.collection in
    let is : map object_of c.deref.result.now ≡ without drops os = ap (map object_of) c.deref.ensures.value ∙ c.in_ok-kept.ensures in
    IfOk-weaker c.extents_left.result _ _
    (λ files h. record {
      drops = drops;
      collected = c.in_ok-collection.ensures;
      of_left = subst (λ l. AreExtentsLeft l (sizes_in c.args.sizes.now) o.bounds o.relax (map (λ row. row.items) files.items)) is h;
    })
    c.extents_left.ensures.extents

pub returns-clause-refuses : goal.returns-clause-refuses
returns-clause-refuses c =
    let os = map object_of c.args.objects.now in
    let o = c.args.options in
    let drops = drops_of os c.in_ok-collection.collection in
    let is : map object_of c.deref.result.now ≡ without drops os = ap (map object_of) c.deref.ensures.value ∙ c.in_ok-kept.ensures in
    IfErr-weaker c.extents_left.result (HasNoLink (map object_of c.deref.result.now) o.bounds o.relax) _
    (λ fault h. some_unlinked os (map object_of c.deref.result.now) o.bounds o.relax drops fault c.in_ok-collection.ensures is h) c.extents_left.ensures.refuses
