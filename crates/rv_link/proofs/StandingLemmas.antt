-- A section of the objects, and what is placed for it.

use Rattle.std.proofs.Common.{◌≡◌, ℕ, zero, suc, ◌+◌, ◌-◌, ◌<◌, true, List, [], ◌∷◌, length, map, get_or, sym, ap, ◌∙◌, subst, arith, Some}
use Rattle.std.proofs.lemmas.List.{length-map}
use Rattle.std.specs.Global.{Vec}
use Rattle.std.specs.List.{list_all, slice_get}
use Rattle.rv_list_laws.proofs.MapLemmas.{get_map_read}
use Rattle.rv_list_laws.proofs.ElementsLemmas.{get_read}
use Rattle.rv_list_laws.proofs.TestsLemmas.{all_get}
use Rattle.rv_object_laws.specs.Object.{Object}
use Rattle.rv_link_laws.specs.declared.bounds.Ground.{Ground}
use Rattle.rv_link_laws.specs.Moves.{has_room}
use Rattle.rv_link_laws.specs.Names.{object_at, no_object}
use Rattle.rv_link_laws.specs.Layout.{section_in, object_section}
use Rattle.rv_shorten.specs.declared.object.ShortObject.{ShortObject}
use Rattle.rv_shorten.specs.Sections.{short_section_of}
use Rattle.rv_shorten.specs.View.{short_object_of}
use Rattle.rv_relax.specs.Kept.{moves_of}
use Rattle.rv_placement.specs.declared.placement.PlacedSection.{PlacedSection}
use Rattle.rv_placement.specs.declared.placement.Placement.{Placement}
use Rattle.rv_placement.specs.Placement.{starts_of, start_in, placed_in, placed_at, are_roomy_in, are_roomy, IsPlacement}
use Rattle.rv_link.specs.declared.fixed.PlacedInput.{PlacedInput}
use Rattle.rv_link.specs.Filled.{IsPlacedInput}
use Rattle.rv_link_laws.proofs.ListsLemmas.{found_at}

-- an index of a section is one of a file that is there
pub within : (os : List Object) (file index : ℕ) → index < length (object_at os (file + 1)).sections → file < length os
within os file index h =
    let same : file + 1 - 1 ≡ file = omega arith in
    go os file (subst (λ n. index < length (get_or os n no_object).sections) same h) where
      go : (os : List Object) (file : ℕ) → index < length (get_or os file no_object).sections → file < length os
      go [] file h = absurd (omega arith)
      go (o ∷ os) zero h = omega arith
      go (o ∷ os) (suc file) h = omega (arith, go os file h)

counts : (fs : List (Vec PlacedSection)) (os : List Object) → map (λ f. length f.items) fs ≡ map (λ o. length o.sections) os
    → (file : ℕ) (o : Object) → slice_get os file ≡ Some o → (f : Vec PlacedSection) → f ≡ get_or fs file f → (file < length fs) × (length f.items ≡ length o.sections)
counts [] [] e file o at f is = absurd (cc)
counts [] (x ∷ os) e file o at f is = absurd (cc)
counts (y ∷ fs) [] e file o at f is = absurd (cc)
counts (y ∷ fs) (x ∷ os) e zero o at f is =
    let same : x ≡ o = cc in
    let long : length y.items ≡ length x.sections = cc in
    (omega arith, ap (λ g. length g.items) is ∙ long ∙ ap (λ z. length z.sections) same)
counts (y ∷ fs) (x ∷ os) e (suc file) o at f is =
    let rest : map (λ f. length f.items) fs ≡ map (λ o. length o.sections) os = cc in
    let more = counts fs os rest file o at f is in
    (omega (arith, more.0), more.1)

module _ (objects : List ShortObject) (bounds : Ground) (p : Placement) (placed : IsPlacement (map short_object_of objects) bounds p) (roomy : are_roomy p ≡ true) (file index : ℕ)
    (here : index < length (object_at (map short_object_of objects) (file + 1)).sections)
    (o : ShortObject) (o_is : o ≡ get_or objects file o) where
  pub low : file < length objects
  low = subst (λ n. file < n) (length-map objects short_object_of) (within (map short_object_of objects) file index here)

  pub object_there : slice_get (map short_object_of objects) file ≡ Some (short_object_of o)
  object_there = get_map_read short_object_of objects file o low o_is

  pub object_is : object_at (map short_object_of objects) (file + 1) ≡ short_object_of o
  object_is = found_at (map short_object_of objects) file (short_object_of o) object_there

  pub index_low : index < length o.sections.items
  index_low = subst (λ n. index < n) (ap (λ x. length x.sections) object_is ∙ length-map o.sections.items short_section_of) here

  module _ (qs : Vec PlacedSection) (qs_is : qs ≡ get_or p.files.items file qs) where
    pub places_long : length qs.items ≡ length o.sections.items
    places_long = (counts p.files.items (map short_object_of objects) placed.each file (short_object_of o) object_there qs qs_is).1 ∙ length-map o.sections.items short_section_of

    pub places_there : slice_get p.files.items file ≡ Some qs
    places_there = get_read p.files.items file qs ((counts p.files.items (map short_object_of objects) placed.each file (short_object_of o) object_there qs qs_is).0) qs_is

    pub input_is : (x : PlacedInput) → x.file.0 ≡ file → x.index.0 ≡ index → x.section.now ≡ get_or (get_or objects file o).sections.items index x.section.now → x.placed.now ≡ get_or qs.items index x.placed.now
        → IsPlacedInput (map short_object_of objects) p x
    input_is x e f s_is q_is =
        let same_file : file ≡ x.file.0 = sym e in
        let same_index : index ≡ x.index.0 = sym f in
        let own : x.section.now ≡ get_or o.sections.items index x.section.now = s_is ∙ ap (λ z. get_or z.sections.items index x.section.now) (sym o_is) in
        let s_there : slice_get (map short_section_of o.sections.items) index ≡ Some (short_section_of x.section.now) = get_map_read short_section_of o.sections.items index x.section.now index_low own in
        let stands : object_section (map short_object_of objects) file index ≡ Some (short_section_of x.section.now) = ap (λ z. section_in z index) object_there ∙ s_there in
        let q_there : slice_get qs.items index ≡ Some x.placed.now = get_read qs.items index x.placed.now (subst (λ n. index < n) (sym places_long) index_low) q_is in
        let at : placed_at p file index ≡ Some x.placed.now = ap (λ z. placed_in z index) places_there ∙ q_there in
        let back : file + 1 - 1 ≡ file = omega arith in
        let start : starts_of p (file + 1) index ≡ x.placed.now.start = ap (λ n. start_in (placed_at p n index)) back ∙ ap start_in at in
        let row : are_roomy_in qs.items ≡ true = all_get (λ g. are_roomy_in g.items) p.files.items file qs roomy places_there in
        record {
          stands = subst (λ n. object_section (map short_object_of objects) n x.index.0 ≡ Some (short_section_of x.section.now)) same_file (subst (λ n. object_section (map short_object_of objects) file n ≡ Some (short_section_of x.section.now)) same_index stands);
          start = subst (λ n. starts_of p (n + 1) x.index.0 ≡ x.placed.now.start) same_file (subst (λ n. starts_of p (file + 1) n ≡ x.placed.now.start) same_index start);
          planned = placed.planned file index (short_section_of x.section.now) x.placed.now stands at;
          room = all_get (λ q. list_all has_room (moves_of q.plan.now)) qs.items index x.placed.now row q_there;
        }
