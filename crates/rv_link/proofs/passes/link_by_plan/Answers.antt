use Rattle.std.proofs.Common.{◌≡◌, ◌≤◌, List, length, map, sym, ap, ◌∙◌, subst, arith, true, inr, refl}
use Rattle.std.proofs.Math.Nat.{le_trans}
use Rattle.std.proofs.lemmas.Result.{err_from_is_err_and}
use Rattle.std.proofs.lemmas.List.{length-map}
use Rattle.rv_image_laws.specs.Free.{free_until}
use Rattle.rv_image.specs.Views.{linked_of}
use Rattle.rv_shorten.specs.declared.object.ShortObject.{ShortObject}
use Rattle.rv_shorten.specs.View.{short_object_of}
use Rattle.rv_link_laws.specs.declared.bounds.Ground.{Ground}
use Rattle.rv_link_laws.specs.Entry.{has_entry}
use Rattle.rv_link_laws.specs.Refusals.{ComesToPlaces, IsUnlinked}
use Rattle.rv_names.specs.Names.{IsNames}
use Rattle.rv_placement.specs.Placement.{layout_of}
use Rattle.rv_fault.specs.declared.link_fault.LinkFault.{LinkFault}
use Rattle.rv_link.specs.Left.{IsLinkWith}
use Rattle.rv_link_laws.specs.TextStart.{AreWithin}
use Rattle.rv_link.specs.Regions.{HasLinkNames}
use Rattle.rv_link.specs.Made.{made}
use Rattle.rv_link.proofs.UnlinkedLemmas.{unfilled}
use Rattle.rv_link.proofs.LinksLemmas.{is_link}
use Rattle.rv_link.proofs.passes.link_by_plan.Goals as goal

-- what has come to the places
come : (bounds : Ground) (xs ys : List ShortObject) → xs ≡ ys → AreWithin (length (map short_object_of ys)) bounds → HasLinkNames (map short_object_of xs) → has_entry (map short_object_of xs) ≡ true
    → ComesToPlaces (map short_object_of xs) bounds
come bounds xs ys same within named begins = ((subst (λ l. AreWithin (length (map short_object_of l)) bounds) (sym same) within, (named.once, named.meant)), begins)

over_same : (bounds : Ground) (fault : LinkFault) (xs ys : List ShortObject) → xs ≡ ys → IsUnlinked (map short_object_of xs) bounds fault → IsUnlinked (map short_object_of ys) bounds fault
over_same bounds fault xs ys same h = subst (λ l. IsUnlinked (map short_object_of l) bounds fault) same h

pub invariant_of-resolved : goal.invariant_of-resolved
invariant_of-resolved c = record { named = subst (λ l. IsNames (map short_object_of l) c.args.names.now) (sym c.as_slice-objects.ensures.value) c.requires.names }

pub entry-requires : goal.entry-requires
entry-requires c = record {
  first = c.args.bounds;
  placed = c.in_ok-placement.ensures.placed;
}

pub fill-requires : goal.fill-requires
fill-requires c = record {
  first = c.args.bounds;
  placed = c.in_ok-placement.ensures.placed;
  roomy = c.in_ok-placement.ensures.room;
}

pub finish-requires-clause-few : goal.finish-requires-clause-few
finish-requires-clause-few c =
    let xs = c.as_slice-objects.result.now in
    let n : length (map short_object_of c.args.plan.now.objects.items) ≡ length xs = length-map c.args.plan.now.objects.items short_object_of ∙ sym (ap length c.as_slice-objects.ensures.value) in
    let few = c.requires.within.0 in
    omega (arith, few, n)

pub finish-requires-clause-placed : goal.finish-requires-clause-placed
finish-requires-clause-placed c = record {
  first = c.args.bounds;
  placed = c.in_ok-placement.ensures.placed;
}

pub finish-requires-clause-free : goal.finish-requires-clause-free
finish-requires-clause-free c =
    let placed = c.in_ok-placement.ensures.placed in
    le_trans placed.laid.below (subst (λ n. c.args.bounds.ceiling ≤ free_until n) (sym placed.laid.text.0) placed.free)

pub returns-clause-links : goal.returns-clause-links
returns-clause-links c =
    let same = c.as_slice-objects.ensures.value in
    let os = map short_object_of c.as_slice-objects.result.now in
    let p = c.in_ok-placement.placement in
    let r = c.in_ok-regions.regions in
    let drops = c.args.drops.items in
    let w : AreWithin (length os) c.args.bounds = subst (λ l. AreWithin (length (map short_object_of l)) c.args.bounds) (sym same) c.requires.within in
    subst (λ l. IsLinkWith (map short_object_of l) c.args.bounds drops c.args.with_map (linked_of c.in_ok-linked.linked)) same
    (record {
      whole = made drops os p c.in_ok-entry.entry r;
      linked = is_link drops os c.args.bounds p c.in_ok-entry.entry r w.0 w.1.0 w.1.1 c.in_ok-placement.ensures.named c.in_ok-placement.ensures.placed c.in_ok-placement.ensures.room
          c.in_ok-entry.ensures.entry c.in_ok-entry.ensures.even c.in_ok-regions.ensures.filled c.in_ok-linked.ensures.readable;
      dropped = refl;
      shown = c.in_ok-linked.ensures.made;
    })

pub returns-in_err-placement-clause-refuses : goal.returns-in_err-placement-clause-refuses
returns-in_err-placement-clause-refuses c =
    let found = err_from_is_err_and c.from_residual.result c.from_residual.ensures.1 in
    rw (found.1, found.2) c.in_err-placement.ensures.refuses

pub returns-in_err-entry-clause-refuses : goal.returns-in_err-entry-clause-refuses
returns-in_err-entry-clause-refuses c =
    let same = c.as_slice-objects.ensures.value in
    let os = map short_object_of c.as_slice-objects.result.now in
    let p = c.in_ok-placement.placement in
    let named = c.in_ok-placement.ensures.named in
    let begins = c.in_ok-placement.ensures.begins in
    let so = come c.args.bounds _ _ same c.requires.within named begins in
    let found = err_from_is_err_and c.from_residual-in_err-entry.result c.from_residual-in_err-entry.ensures.1 in
    let odd = c.in_err-entry.ensures.refuses in
    rw (found.1, found.2)
    (over_same c.args.bounds _ _ _ same
    (subst (IsUnlinked os c.args.bounds) (sym odd.0) (so.0, inr (layout_of p, c.in_ok-placement.ensures.placed.laid, odd.1))))

pub returns-in_err-regions-clause-refuses : goal.returns-in_err-regions-clause-refuses
returns-in_err-regions-clause-refuses c =
    let same = c.as_slice-objects.ensures.value in
    let os = map short_object_of c.as_slice-objects.result.now in
    let p = c.in_ok-placement.placement in
    let named = c.in_ok-placement.ensures.named in
    let begins = c.in_ok-placement.ensures.begins in
    let so = come c.args.bounds _ _ same c.requires.within named begins in
    let found = err_from_is_err_and c.from_residual-in_err-regions.result c.from_residual-in_err-regions.ensures.1 in
    rw (found.1, found.2)
    (over_same c.args.bounds c.in_err-regions.field-0.0 _ _ same
    (unfilled os c.args.bounds p so c.in_ok-placement.ensures.placed c.in_ok-placement.ensures.room c.in_err-regions.field-0.0 c.in_err-regions.ensures.refuses))
