use Rattle.std.proofs.Common.{◌≡◌, List, length, true, inl, sym, ◌∙◌, map, subst}
use Rattle.std.proofs.lemmas.Result.{err_from_is_err_and}
use Rattle.rv_object_laws.specs.Object.{Object}
use Rattle.rv_shorten.specs.View.{short_object_of}
use Rattle.rv_link_laws.specs.declared.bounds.Ground.{Ground}
use Rattle.rv_link_laws.specs.Entry.{has_entry}
use Rattle.rv_link_laws.specs.Refusals.{ComesToPlaces, IsUnlinked}
use Rattle.rv_link_laws.specs.TextStart.{AreWithin}
use Rattle.rv_relax.specs.Plan.{planned_objects}
use Rattle.rv_placement.specs.Placement.{IsPlacement}
use Rattle.rv_placement.proofs.LayoutsLemmas.{has_layout}
use Rattle.rv_placement.proofs.RoomsStandLemmas.{lacks_room_anywhere}
use Rattle.rv_fault.specs.declared.link_fault.LinkFault.TheVariants.{EntryMissing}
use Rattle.rv_link.specs.Regions.{HasLinkNames}
use Rattle.rv_link.proofs.UnlinkedLemmas.{not_placed, unnamed}
use Rattle.rv_link.proofs.passes.placed.Goals as goal

-- what has come to the places
come : (bounds : Ground) (os left : List Object) → os ≡ left → AreWithin (length left) bounds → HasLinkNames os → has_entry os ≡ true → ComesToPlaces left bounds
come bounds os left same within named begins = subst (λ l. ComesToPlaces l bounds) same ((subst (λ l. AreWithin (length l) bounds) (sym same) within, (named.once, named.meant)), begins)

pub place-requires-clause-page : goal.place-requires-clause-page
place-requires-clause-page c = c.requires.within.1.0

pub place-requires-clause-low : goal.place-requires-clause-low
place-requires-clause-low c = c.requires.within.1.1

pub place-requires-clause-free : goal.place-requires-clause-free
place-requires-clause-free c = c.requires.within.1.2

pub returns-clause-placed : goal.returns-clause-placed
returns-clause-placed c = subst (λ l. IsPlacement l c.args.bounds c.in_ok-placement.placement) (sym c.requires.same) c.in_ok-placement.ensures.placed

pub returns-then-not-is_roomy-clause-refuses : goal.returns-then-not-is_roomy-clause-refuses
returns-then-not-is_roomy-clause-refuses c =
    let named = c.in_ok-resolve.ensures.named in
    let begins = sym c.has_entry.ensures ∙ c.if-not-has_entry.false in
    let none = sym c.is_roomy.ensures ∙ c.if-not-is_roomy.true in
    let layout = has_layout (planned_objects c.args.plan.now) c.args.bounds.text in (
      come c.args.bounds (map short_object_of c.args.resolution.now.objects.now) (planned_objects c.args.plan.now) c.requires.same c.requires.within named begins,
      (layout.0, layout.5.1, lacks_room_anywhere c.args.plan.now.objects.items c.args.bounds.text none layout.0 layout.5.1),
    )

pub returns-then-not-has_entry-clause-refuses : goal.returns-then-not-has_entry-clause-refuses
returns-then-not-has_entry-clause-refuses c =
    let named = c.in_ok-resolve.ensures.named in
    let same = c.requires.same in
    subst (λ l. IsUnlinked l c.args.bounds EntryMissing) same
    ((subst (λ l. AreWithin (length l) c.args.bounds) (sym same) c.requires.within, (named.once, named.meant)), inl (sym c.has_entry.ensures ∙ c.if-not-has_entry.true))

pub returns-in_err-resolve-clause-refuses : goal.returns-in_err-resolve-clause-refuses
returns-in_err-resolve-clause-refuses c =
    let same = c.requires.same in
    let fault = c.in_err-resolve.field-0.0 in
    let within = subst (λ l. AreWithin (length l) c.args.bounds) (sym same) c.requires.within in
    let found = err_from_is_err_and c.from_residual.result c.from_residual.ensures.1 in
    rw (found.1, found.2)
    (subst (λ l. IsUnlinked l c.args.bounds fault) same (unnamed (map short_object_of c.args.resolution.now.objects.now) c.args.bounds fault within c.in_err-resolve.ensures.refuses))

pub returns-in_err-placement-clause-refuses : goal.returns-in_err-placement-clause-refuses
returns-in_err-placement-clause-refuses c =
    let named = c.in_ok-resolve.ensures.named in
    let begins = sym c.has_entry.ensures ∙ c.if-not-has_entry.false in
    let so = come c.args.bounds (map short_object_of c.args.resolution.now.objects.now) (planned_objects c.args.plan.now) c.requires.same c.requires.within named begins in
    let found = err_from_is_err_and c.from_residual-in_err-placement.result c.from_residual-in_err-placement.ensures.1 in
    rw (found.1, found.2) (not_placed (planned_objects c.args.plan.now) c.args.bounds c.in_err-placement.field-0.0 so c.in_err-placement.ensures.refuses)
