-- The value of the high part at a place.

use Rattle.std.proofs.Common.{◌≡◌, ◌⊎◌, ℕ, ℤ, ◌+◌, ◌-◌, List, Option, Some, None, refl, sym, ap, ◌∙◌, arith, option_map, inl, inr}
use Rattle.std.specs.Prelude.{slice_index_or}
use Rattle.std.specs.List.{slice_get}
use Rattle.std.proofs.lemmas.Option.{unwrap_or-slice_get}
use Rattle.rv_object_laws.specs.Object.{Relocation, Section, Object}
use Rattle.rv_link_laws.specs.declared.bounds.Ground.{Ground}
use Rattle.rv_link_laws.specs.Moves.{moves, new_offset}
use Rattle.rv_link_laws.specs.Inputs.{InputSection}
use Rattle.rv_link_laws.specs.Names.{Outer, object_at, no_object}
use Rattle.rv_link_laws.specs.Values.{own_value, high_at, value_at, value_in}
use Rattle.rv_link_laws.specs.Layout.{section_in, object_section}
use Rattle.rv_link_laws.proofs.ListsLemmas.{found_at}
use Rattle.rv_relax.specs.Kept.{moves_of}
use Rattle.rv_placement.specs.declared.placement.PlacedSection.{PlacedSection}
use Rattle.rv_placement.specs.declared.placement.Placement.{Placement}
use Rattle.rv_placement.specs.Placement.{starts_of, start_in, placed_at, IsPlacement}
use Rattle.rv_placement.proofs.FoundLemmas.{not_placed}
use Rattle.rv_link_values.specs.Highs.{high_in, high_of}
use Rattle.rv_link_values.specs.Values.{IsInputAt}

-- ---- objects and sections by their numbers

-- the sections of an object that isn't there are those of none
sections_at : (os : List Object) (file index : ℕ) → slice_get (object_at os (file + 1)).sections index ≡ object_section os file index
sections_at os file index = by (slice_get os file) refl
  where
    by : (f : Option Object) → slice_get os file ≡ f → slice_get (object_at os (file + 1)).sections index ≡ object_section os file index
    by (Some o) at = ap (λ x. slice_get x.sections index) (found_at os file o at) ∙ sym (ap (λ x. section_in x index) at)
    by None at =
        let same : file + 1 - 1 ≡ file = omega arith in
        let none : object_at os (file + 1) ≡ no_object = ap (λ n. slice_index_or os n no_object) same ∙ sym (unwrap_or-slice_get os file no_object) ∙ ap (λ x. Rattle.std.specs.Prelude.unwrap_or x no_object) at in
        ap (λ x. slice_get x.sections index) none ∙ sym (ap (λ x. section_in x index) at)

section_cases : (os : List Object) (file index : ℕ) → (object_section os file index ≡ None) ⊎ ((o : Object) × (s : Section) × (slice_get os file ≡ Some o) × (slice_get o.sections index ≡ Some s))
section_cases os file index = by (slice_get os file) refl
  where
    within : (o : Object) → slice_get os file ≡ Some o → (s : Option Section) → slice_get o.sections index ≡ s
        → (object_section os file index ≡ None) ⊎ ((o : Object) × (s : Section) × (slice_get os file ≡ Some o) × (slice_get o.sections index ≡ Some s))
    within o at None none = inl (ap (λ x. section_in x index) at ∙ none)
    within o at (Some s) stands = inr (o, s, at, stands)

    by : (f : Option Object) → slice_get os file ≡ f
        → (object_section os file index ≡ None) ⊎ ((o : Object) × (s : Section) × (slice_get os file ≡ Some o) × (slice_get o.sections index ≡ Some s))
    by None at = inl (ap (λ x. section_in x index) at)
    by (Some o) at = within o at (slice_get o.sections index) refl

-- ---- the value at an old offset of a section

module _ (os : List Object) (bounds : Ground) (p : Placement) (is : IsPlacement os bounds p) (outer : Outer) (file index offset : ℕ) where
  abbrev worth : Option ℤ
  worth = value_at outer (starts_of p) os (Some (record { file = file + 1; section = index; offset = offset }))

  absent : object_section os file index ≡ None → worth ≡ None
  absent none = ap (value_in outer (starts_of p) (file + 1) (object_at os (file + 1)) index offset) (sections_at os file index ∙ none)

  start_is : (q : PlacedSection) → placed_at p file index ≡ Some q → starts_of p (file + 1) index ≡ q.start
  start_is q there =
      let same : file + 1 - 1 ≡ file = omega arith in
      ap (λ n. start_in (placed_at p n index)) same ∙ ap start_in there

  high_found : (q : PlacedSection) → placed_at p file index ≡ Some q → (o : Object) (s : Section) → slice_get os file ≡ Some o → slice_get o.sections index ≡ Some s
      → high_at (moves (starts_of p (file + 1) index) s) offset s.relocations ≡ high_of p os file index (new_offset (moves_of q.plan.now) offset)
  high_found q there o s at stands =
      let section : object_section os file index ≡ Some s = ap (λ x. section_in x index) at ∙ stands in
      ap (λ a. high_at (moves a s) offset s.relocations) (start_is q there)
      ∙ ap (λ ms. high_at ms offset s.relocations) (sym (is.planned file index s q section there))
      ∙ sym (ap (λ w. high_in w (object_section os file index) (new_offset (moves_of q.plan.now) offset)) there ∙ ap (λ t. high_in (Some q) t (new_offset (moves_of q.plan.now) offset)) section)

  present : (q : PlacedSection) → placed_at p file index ≡ Some q → (o : Object) (s : Section) → slice_get os file ≡ Some o → slice_get o.sections index ≡ Some s
      → worth ≡ option_map (own_value outer (starts_of p (file + 1)) o (starts_of p (file + 1) index) s) (high_of p os file index (new_offset (moves_of q.plan.now) offset))
  present q there o s at stands =
      ap (λ x. value_in outer (starts_of p) (file + 1) x index offset (slice_get x.sections index)) (found_at os file o at)
      ∙ ap (value_in outer (starts_of p) (file + 1) o index offset) stands
      ∙ ap (option_map (own_value outer (starts_of p (file + 1)) o (starts_of p (file + 1) index) s)) (high_found q there o s at stands)

  pub without_place : placed_at p file index ≡ None → None ≡ worth
  without_place none = elim (section_cases os file index) [
    | inl gone ↦ sym (absent gone)
    | inr (o, s, at, stands) ↦ absurd (not_placed os bounds p is file index s (ap (λ x. section_in x index) at ∙ stands) none)
  ]

  pub without_high : (q : PlacedSection) → placed_at p file index ≡ Some q → high_of p os file index (new_offset (moves_of q.plan.now) offset) ≡ None → None ≡ worth
  without_high q there none = elim (section_cases os file index) [
    | inl gone ↦ sym (absent gone)
    | inr (o, s, at, stands) ↦ sym (present q there o s at stands ∙ ap (option_map (own_value outer (starts_of p (file + 1)) o (starts_of p (file + 1) index) s)) none)
  ]

  pub with_high : (q : PlacedSection) → placed_at p file index ≡ Some q → (r : Relocation) → high_of p os file index (new_offset (moves_of q.plan.now) offset) ≡ Some r
      → (n : ℤ) → ((i : InputSection) → IsInputAt os file index i → n ≡ own_value outer (starts_of p i.file) i.object (starts_of p i.file i.index) i.section r)
      → Some n ≡ worth
  with_high q there r high n claim = elim (section_cases os file index) [
    | inl gone ↦ absurd (let none : Some r ≡ None = sym high ∙ ap (λ w. high_in w (object_section os file index) (new_offset (moves_of q.plan.now) offset)) there ∙ ap (λ t. high_in (Some q) t (new_offset (moves_of q.plan.now) offset)) gone in cc)
    | inr (o, s, at, stands) ↦
        let i : InputSection = record { file = file + 1; object = o; index = index; section = s } in
        ap Some (claim i (record { numbered = refl; at = at; indexed = refl; there = stands }))
        ∙ sym (present q there o s at stands ∙ ap (option_map (own_value outer (starts_of p (file + 1)) o (starts_of p (file + 1) index) s)) high)
  ]
