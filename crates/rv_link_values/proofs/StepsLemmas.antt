-- What the index has after one section more of an object, and after one object more.

use Rattle.std.proofs.Common.{◌≡◌, ℕ, suc, ◌<◌, Bool, true, false, ◌&&◌, ◌==◌, List, length, take, map, get_or, refl, sym, ap, ◌∙◌, Option, Some, None}
use Rattle.std.specs.Prelude.{if◌then◌else◌}
use Rattle.std.specs.List.{slice_get}
use Rattle.std.proofs.lemmas.Bool.{eqb-true, eqb-false}
use Rattle.rv_object_laws.specs.Object.{Relocation}
use Rattle.rv_link_laws.specs.Layout.{section_in}
use Rattle.rv_shorten.specs.declared.section.ShortSection.{ShortSection}
use Rattle.rv_shorten.specs.declared.object.ShortObject.{ShortObject}
use Rattle.rv_shorten.specs.Sections.{short_section_of}
use Rattle.rv_shorten.specs.View.{short_object_of}
use Rattle.rv_placement.specs.declared.placement.PlacedSection.{PlacedSection}
use Rattle.rv_placement.specs.declared.placement.Placement.{Placement}
use Rattle.rv_placement.specs.Placement.{placed_at}
use Rattle.rv_link_values.specs.Highs.{else_found, high_in, high_of}
use Rattle.rv_link_values.proofs.TakenLemmas.{none_yet, taken_next, taken_others}

none_in : (q : Option PlacedSection) (x : ℕ) → high_in q None x ≡ None
none_in None x = refl
none_in (Some q) x = refl

else_none : (o : Option Relocation) → else_found o None ≡ o
else_none None = refl
else_none (Some r) = refl

-- `own` is where the section stands, `q` what is asked for
pub section_step : (own q : Option PlacedSection) (ss : List ShortSection) (i n s x : ℕ) (t : ShortSection) (a : Bool) (start : Option Relocation)
    → i < length ss → t ≡ get_or ss i t → n ≡ suc i → (a ≡ true → i ≡ s → own ≡ q)
    → let before = if a then else_found (high_in q (slice_get (map short_section_of (take i ss)) s) x) start else start in
    (if a && (i == s) then else_found (high_in own (Some (short_section_of t)) x) before else before)
    ≡ (if a then else_found (high_in q (slice_get (map short_section_of (take n ss)) s) x) start else start)
section_step own q ss i n s x t a start inside is count same =
    by a (i == s) refl refl ∙ ap (λ k. if a then else_found (high_in q (slice_get (map short_section_of (take k ss)) s) x) start else start) (sym count)
  where
    by : (b c : Bool) → a ≡ b → (i == s) ≡ c
        → let before = if b then else_found (high_in q (slice_get (map short_section_of (take i ss)) s) x) start else start in
        (if b && c then else_found (high_in own (Some (short_section_of t)) x) before else before)
        ≡ (if b then else_found (high_in q (slice_get (map short_section_of (take (suc i) ss)) s) x) start else start)
    by true true first here =
        let e : i ≡ s = eqb-true i s here in
        let none : slice_get (map short_section_of (take i ss)) s ≡ None = ap (slice_get (map short_section_of (take i ss))) (sym e) ∙ none_yet short_section_of ss i in
        let next : slice_get (map short_section_of (take (suc i) ss)) s ≡ Some (short_section_of t) = ap (slice_get (map short_section_of (take (suc i) ss))) (sym e) ∙ taken_next short_section_of ss i t inside is in
        ap (λ o. else_found (high_in own (Some (short_section_of t)) x) (else_found o start)) (ap (λ o. high_in q o x) none ∙ none_in q x)
        ∙ ap (λ w. else_found (high_in w (Some (short_section_of t)) x) start) (same first e)
        ∙ sym (ap (λ o. else_found (high_in q o x) start) next)
    by true false first apart = sym (ap (λ o. else_found (high_in q o x) start) (taken_others short_section_of ss i s (eqb-false i s apart)))
    by false c first here = refl

pub object_step : (p : Placement) (os : List ShortObject) (i n f s x : ℕ) (o : ShortObject) → i < length os → o ≡ get_or os i o → n ≡ suc i
    → let before = high_of p (map short_object_of (take i os)) f s x in
    (if i == f then else_found (high_in (placed_at p i s) (slice_get (short_object_of o).sections s) x) before else before)
    ≡ high_of p (map short_object_of (take n os)) f s x
object_step p os i n f s x o inside is count =
    by (i == f) refl ∙ ap (λ k. high_of p (map short_object_of (take k os)) f s x) (sym count)
  where
    by : (b : Bool) → (i == f) ≡ b
        → let before = high_of p (map short_object_of (take i os)) f s x in
        (if b then else_found (high_in (placed_at p i s) (slice_get (short_object_of o).sections s) x) before else before)
        ≡ high_of p (map short_object_of (take (suc i) os)) f s x
    by true here =
        let e : i ≡ f = eqb-true i f here in
        let none : slice_get (map short_object_of (take i os)) f ≡ None = ap (slice_get (map short_object_of (take i os))) (sym e) ∙ none_yet short_object_of os i in
        let next : slice_get (map short_object_of (take (suc i) os)) f ≡ Some (short_object_of o) = ap (slice_get (map short_object_of (take (suc i) os))) (sym e) ∙ taken_next short_object_of os i o inside is in
        let found_now = high_in (placed_at p i s) (slice_get (short_object_of o).sections s) x in
        ap (else_found found_now) (ap (λ l. high_in (placed_at p f s) (section_in l s) x) none ∙ none_in (placed_at p f s) x)
        ∙ else_none found_now
        ∙ ap (λ k. high_in (placed_at p k s) (slice_get (short_object_of o).sections s) x) e
        ∙ sym (ap (λ l. high_in (placed_at p f s) (section_in l s) x) next)
    by false apart = sym (ap (λ l. high_in (placed_at p f s) (section_in l s) x) (taken_others short_object_of os i f (eqb-false i f apart)))
