-- What is placed for each section, and its address.

use Rattle.std.proofs.Common.{suc, zero, ◌≡◌, ◌+◌, ◌-◌, ◌%◌, ◌^◌, ℕ, Bool, true, false, if◌then◌else◌, Option, Some, None, List, [], ◌∷◌, length, map, refl, sym, ap, ◌∙◌, arith}
use Rattle.std.specs.Global.{Vec}
use Rattle.std.specs.List.{slice_get}
use Rattle.std.proofs.lemmas.Option.{slice_get_within}
use Rattle.rv_list_laws.proofs.ElementsLemmas.{get_some}
use Rattle.rv_object_laws.specs.Object.{Section, Object}
use Rattle.rv_link_laws.specs.declared.bounds.Ground.{Ground}
use Rattle.rv_link_laws.specs.Moves.{moves, new_offset}
use Rattle.rv_link_laws.specs.Names.{offset_address}
use Rattle.rv_link_laws.specs.Layout.{section_in, object_section}
use Rattle.rv_relax.specs.Kept.{moves_of}
use Rattle.rv_placement.specs.declared.placement.PlacedSection.{PlacedSection}
use Rattle.rv_placement.specs.declared.placement.Placement.{Placement}
use Rattle.rv_placement.specs.Placement.{starts_of, start_in, placed_in, placed_at, IsPlacement}

-- each section has its place
pub each_at : (fs : List (Vec PlacedSection)) (os : List Object) → map (λ f. length f.items) fs ≡ map (λ o. length o.sections) os
    → (file index : ℕ) (s : Section) → section_in (slice_get os file) index ≡ Some s → (q : PlacedSection) × (placed_in (slice_get fs file) index ≡ Some q)
each_at [] [] e file index s at = absurd (cc)
each_at [] (o ∷ os) e file index s at = absurd (cc)
each_at (f ∷ fs) [] e file index s at = absurd (cc)
each_at (f ∷ fs) (o ∷ os) e zero index s at =
    let same : length f.items ≡ length o.sections = cc in
    get_some f.items index (omega (arith, slice_get_within o.sections index s at))
each_at (f ∷ fs) (o ∷ os) e (suc file) index s at = each_at fs os (let same : map (λ f. length f.items) fs ≡ map (λ o. length o.sections) os = cc in same) file index s at

pub is_placed : (os : List Object) (bounds : Ground) (p : Placement) → IsPlacement os bounds p → (file index : ℕ) (s : Section) → object_section os file index ≡ Some s → (q : PlacedSection) × (placed_at p file index ≡ Some q)
is_placed os bounds p is file index s at = each_at p.files.items os is.each file index s at

pub not_placed : (os : List Object) (bounds : Ground) (p : Placement) → IsPlacement os bounds p → (file index : ℕ) (s : Section) → object_section os file index ≡ Some s → placed_at p file index ≡ None → ⊥
not_placed os bounds p is file index s at none =
    let (q, there) = is_placed os bounds p is file index s at in
    let both : Some q ≡ None = sym there ∙ none in cc

-- ---- addresses

pub in_object : (os : List Object) (file index : ℕ) (o : Object) → slice_get os file ≡ Some o → object_section os file index ≡ slice_get o.sections index
in_object os file index o at = ap (λ x. section_in x index) at

pub start_is : (p : Placement) (file index : ℕ) (q : PlacedSection) → Some q ≡ placed_at p file index → starts_of p (file + 1) index ≡ q.start
start_is p file index q at =
    let same : file + 1 - 1 ≡ file = omega arith in
    ap (λ n. start_in (placed_at p n index)) same ∙ ap start_in (sym at)

pub address_none : (os : List Object) (file index : ℕ) (o : Object) (start offset : ℕ) → slice_get os file ≡ Some o → None ≡ object_section os file index → None ≡ offset_address start offset (slice_get o.sections index)
address_none os file index o start offset at none = ap (offset_address start offset) (none ∙ in_object os file index o at)

by_loaded : (b : Bool) (x : Option ℕ) → b ≡ false → None ≡ (if b then x else None)
by_loaded true x e = absurd (cc)
by_loaded false x e = refl

if_loaded : (b : Bool) (x : Option ℕ) → b ≡ true → x ≡ (if b then x else None)
if_loaded true x e = refl
if_loaded false x e = absurd (cc)

pub address_unloaded : (os : List Object) (file index : ℕ) (o : Object) (start offset : ℕ) (s : Section) → slice_get os file ≡ Some o → Some s ≡ object_section os file index → s.loaded ≡ false
    → None ≡ offset_address start offset (slice_get o.sections index)
address_unloaded os file index o start offset s at is not =
    by_loaded s.loaded (Some ((start + new_offset (moves start s) offset) % 2 ^ 64)) not ∙ ap (offset_address start offset) (is ∙ in_object os file index o at)

pub address_is : (os : List Object) (bounds : Ground) (p : Placement) → IsPlacement os bounds p → (file index : ℕ) (o : Object) (offset n : ℕ) (s : Section) (q : PlacedSection)
    → slice_get os file ≡ Some o → Some s ≡ object_section os file index → Some q ≡ placed_at p file index → s.loaded ≡ true → n ≡ new_offset (moves_of q.plan.now) offset
    → Some ((q.start + n) % 2 ^ 64) ≡ offset_address (starts_of p (file + 1) index) offset (slice_get o.sections index)
address_is os bounds p is file index o offset n s q at stands there yes' new =
    let planned = is.planned file index s q (sym stands) (sym there) in
    let e : n ≡ new_offset (moves q.start s) offset = new ∙ ap (λ ms. new_offset ms offset) planned in
    let one : Some ((q.start + n) % 2 ^ 64) ≡ offset_address q.start offset (Some s) = ap (λ m. Some ((q.start + m) % 2 ^ 64)) e ∙ if_loaded s.loaded (Some ((q.start + new_offset (moves q.start s) offset) % 2 ^ 64)) yes' in
    one ∙ ap (offset_address q.start offset) (stands ∙ in_object os file index o at) ∙ ap (λ a. offset_address a offset (slice_get o.sections index)) (sym (start_is p file index q there))
