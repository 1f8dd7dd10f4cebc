-- Marking, in any order, ends at the one least closed set.

use Rattle.std.proofs.Common.{◌≡◌, ◌⊎◌, inl, inr, ℕ, zero, suc, ◌+◌, ◌≤◌, Bool, true, false, not, ◌&&◌, List, [], ◌∷◌, length, refl, ap, subst, sym, ◌∙◌, arith}
use Rattle.std.specs.List.{IsDistinct}
use Rattle.std.specs.Cmp.{both_ways}
use Rattle.std.proofs.lemmas.Bool.{cases_Bool, and_parts, and_from, or_cases, true≢false, not-true}
use Rattle.std.proofs.lemmas.List.Elements.{filter_agree}
use Rattle.std.proofs.lemmas.Map.Made.{length-le_from_is_member}
use Rattle.rv_map_laws.specs.declared.map.SectionId.{SectionId}
use Rattle.rv_collect_laws.specs.Graph.{is_same, is_one_of, Graph, Marks, Has, IsClosed, IsLeastClosed, Marking, Unmarked, Begins, Follows, outside, AreDrops, staying, AreAlike}
use Rattle.rv_collect_laws.proofs.SectionsLemmas.{same_is, same_laws, in_more, in_now, apart, some_or_none, filters_agree, in_outside}

-- ---- what is marked lies in each closed set

marked_within : (g : Graph) (done : List SectionId) → Marking g done → (others : Marks) → IsClosed g others
    → (s : SectionId) → is_one_of done s ≡ true → others s ≡ true
marked_within g _ Unmarked others c s h = absurd (true≢false (sym h))
marked_within g _ (Begins done t m has new begins) others c s h =
    elim (or_cases (is_same s t) (is_one_of done s) h) [
      | inl here ↦ subst (λ z. others z ≡ true) (sym (same_is s t here)) (c.first t has begins)
      | inr there ↦ marked_within g done m others c s there
    ]
marked_within g _ (Follows done from t m marked has new refers) others c s h =
    elim (or_cases (is_same s t) (is_one_of done s) h) [
      | inl here ↦ subst (λ z. others z ≡ true) (sym (same_is s t here)) (c.further from t (marked_within g done m others c from marked) has refers)
      | inr there ↦ marked_within g done m others c s there
    ]

pub ends_least : (g : Graph) (done : List SectionId) → Marking g done → IsClosed g (is_one_of done) → IsLeastClosed g (is_one_of done)
ends_least g done m c = record { closed = c; least = marked_within g done m }

-- ---- each mark takes another one of the sections

marked_has : (g : Graph) (done : List SectionId) → Marking g done → (s : SectionId) → is_one_of done s ≡ true → Has g s
marked_has g _ Unmarked s h = absurd (true≢false (sym h))
marked_has g _ (Begins done t m has new begins) s h =
    elim (or_cases (is_same s t) (is_one_of done s) h) [
      | inl here ↦ subst (Has g) (sym (same_is s t here)) has
      | inr there ↦ marked_has g done m s there
    ]
marked_has g _ (Follows done from t m marked has new refers) s h =
    elim (or_cases (is_same s t) (is_one_of done s) h) [
      | inl here ↦ subst (Has g) (sym (same_is s t here)) has
      | inr there ↦ marked_has g done m s there
    ]

marked_once : (g : Graph) (done : List SectionId) → Marking g done → IsDistinct is_same done
unfolding IsDistinct
marked_once g _ Unmarked = tt
marked_once g _ (Begins done t m has new begins) = (apart t done new, marked_once g done m)
marked_once g _ (Follows done from t m marked has new refers) = (apart t done new, marked_once g done m)

pub marks_few : (g : Graph) (done : List SectionId) → Marking g done → length done ≤ length g.sections
marks_few g done m = length-le_from_is_member same_laws done g.sections (marked_once g done m) (marked_has g done m)

-- ---- a set that is not closed can be marked further

abbrev More : Graph → List SectionId → Type 0
More g done = (t : SectionId) × Marking g (t ∷ done)

marked_or : (a b : Bool) → (b && not a) ≡ false → b ≡ true → a ≡ true
marked_or true b h t = refl
marked_or false true h t = absurd (true≢false h)
marked_or false false h t = absurd (true≢false (sym t))

first_or_more : (g : Graph) (done : List SectionId) → Marking g done
    → ((s : SectionId) → Has g s → g.begins s ≡ true → is_one_of done s ≡ true) ⊎ More g done
first_or_more g done m =
    elim (some_or_none (λ s. g.begins s && not (is_one_of done s)) g.sections) [
      | inl found ↦
          let t : SectionId = found.0 in
          let parts = and_parts (g.begins t) (not (is_one_of done t)) found.2 in
          inr (t, Begins done t m found.1 (not-true (is_one_of done t) parts.1) parts.0)
      | inr none ↦ inl (λ s has begins. marked_or (is_one_of done s) (g.begins s) (none s has) begins)
    ]

from_or_more : (g : Graph) (done : List SectionId) → Marking g done → (s : SectionId) → is_one_of done s ≡ true
    → ((t : SectionId) → Has g t → g.refers s t ≡ true → is_one_of done t ≡ true) ⊎ More g done
from_or_more g done m s marked =
    elim (some_or_none (λ t. g.refers s t && not (is_one_of done t)) g.sections) [
      | inl found ↦
          let t : SectionId = found.0 in
          let parts = and_parts (g.refers s t) (not (is_one_of done t)) found.2 in
          inr (t, Follows done s t m marked found.1 (not-true (is_one_of done t) parts.1) parts.0)
      | inr none ↦ inl (λ t has refers. marked_or (is_one_of done t) (g.refers s t) (none t has) refers)
    ]

-- some of the sections refer to nothing beyond the marks
abbrev Leads : Graph → List SectionId → List SectionId → Type 0
Leads g done some = (s t : SectionId) → is_one_of some s ≡ true → Has g t → g.refers s t ≡ true → is_one_of done t ≡ true

further_or_more : (g : Graph) (done : List SectionId) → Marking g done → (some : List SectionId)
    → ((s : SectionId) → is_one_of some s ≡ true → is_one_of done s ≡ true) → Leads g done some ⊎ More g done
further_or_more g done m [] h = inl (λ s t none. absurd (true≢false (sym none)))
further_or_more g done m (x ∷ xs) h =
    elim (from_or_more g done m x (h x (in_now x xs))) [
      | inr more ↦ inr more
      | inl here ↦ elim (further_or_more g done m xs (λ s there. h s (in_more x s xs there))) [
        | inr more ↦ inr more
        | inl others ↦ inl (λ s t marked has refers. elim (or_cases (is_same s x) (is_one_of xs s) marked) [
          | inl now ↦ here t has (subst (λ z. g.refers z t ≡ true) (same_is s x now) refers)
          | inr there ↦ others s t there has refers
        ])
      ]
    ]

pub closed_or_more : (g : Graph) (done : List SectionId) → Marking g done → IsClosed g (is_one_of done) ⊎ More g done
closed_or_more g done m =
    elim (first_or_more g done m) [
      | inr more ↦ inr more
      | inl begin ↦ elim (further_or_more g done m done (λ s h. h)) [
        | inr more ↦ inr more
        | inl go ↦ inl (record { first = begin; further = go })
      ]
    ]

-- ---- there is one least closed set

least_from : (g : Graph) (fuel : ℕ) (done : List SectionId) → Marking g done → length done + fuel ≡ length g.sections
    → (all : List SectionId) × IsLeastClosed g (is_one_of all)
least_from g zero done m e =
    elim (closed_or_more g done m) [
      | inl closed ↦ (done, ends_least g done m closed)
      | inr more ↦ let few : suc (length done) ≤ length g.sections = marks_few g (more.0 ∷ done) more.1 in absurd (omega arith)
    ]
least_from g (suc fuel) done m e =
    elim (closed_or_more g done m) [
      | inl closed ↦ (done, ends_least g done m closed)
      | inr more ↦ least_from g fuel (more.0 ∷ done) more.1 (omega arith)
    ]

least_exists : (g : Graph) → (all : List SectionId) × IsLeastClosed g (is_one_of all)
least_exists g = least_from g (length g.sections) [] Unmarked (omega arith)

one_least : (g : Graph) (a b : Marks) → IsLeastClosed g a → IsLeastClosed g b → (s : SectionId) → a s ≡ b s
one_least g a b la lb s = both_ways (a s) (b s) (la.least b lb.closed s) (lb.least a la.closed s)

-- ---- what is dropped

pub some_drops : (gc : Bool) (g : Graph) → (drops : List SectionId) × AreDrops gc g drops
some_drops false g = ([], refl)
some_drops true g = let found = least_exists g in (outside (is_one_of found.0) g.sections, (is_one_of found.0, found.1, refl))

pub same_drops : (gc : Bool) (g : Graph) (drops others : List SectionId) → AreDrops gc g drops → AreDrops gc g others → drops ≡ others
same_drops false g drops others a b = a ∙ sym b
same_drops true g drops others (m, lm, dm) (n, ln, dn) =
    dm ∙ filter_agree (λ s. not (m s)) (λ s. not (n s)) (λ s. ap not (one_least g m n lm ln s)) g.sections ∙ sym dn

pub drops_within : (gc : Bool) (g : Graph) (drops : List SectionId) → AreDrops gc g drops → (s : SectionId) → is_one_of drops s ≡ true → Has g s
drops_within false g drops d s h = absurd (true≢false (sym h ∙ ap (λ l. is_one_of l s) d))
drops_within true g drops (m, lm, dm) s h =
    (and_parts (is_one_of g.sections s) (not (m s)) (sym (ap (λ l. is_one_of l s) dm ∙ in_outside m g.sections s) ∙ h)).0

-- ---- graphs that are alike

-- a closed set of one, cut to the sections, is closed in the other
abbrev cut : Graph → Marks → Marks
cut g marks s = is_one_of g.sections s && marks s

cut_closed : (g h : Graph) → AreAlike g h → (marks : Marks) → IsClosed h marks → IsClosed g (cut g marks)
cut_closed g h alike marks c = record {
  first = λ s has begins. and_from (is_one_of g.sections s) (marks s) has
      (c.first s (subst (λ l. is_one_of l s ≡ true) alike.sections has) (sym (alike.begins s has) ∙ begins));
  further = λ s t marked has refers.
      let parts = and_parts (is_one_of g.sections s) (marks s) marked in
      and_from (is_one_of g.sections t) (marks t) has
      (elim (cases_Bool (is_same s t)) [
        | inl same ↦ subst (λ z. marks z ≡ true) (same_is s t same) parts.1
        | inr apart ↦ c.further s t parts.1 (subst (λ l. is_one_of l t ≡ true) alike.sections has) (sym (alike.refers s t parts.0 has apart) ∙ refers)
      ]);
}

other_way : (g h : Graph) → AreAlike g h → AreAlike h g
other_way g h alike =
    let back : (s : SectionId) → Has h s → Has g s = λ s has. subst (λ l. is_one_of l s ≡ true) (sym alike.sections) has in
    record {
      sections = sym alike.sections;
      begins = λ s has. sym (alike.begins s (back s has));
      refers = λ s t hs ht apart. sym (alike.refers s t (back s hs) (back t ht) apart);
    }

-- ---- what stays

-- a graph is like itself
itself : (g : Graph) → AreAlike g g
itself g = record { sections = refl; begins = λ s has. refl; refers = λ s t hs ht apart. refl }

cut_least : (g : Graph) (marks : Marks) → IsLeastClosed g marks → IsLeastClosed g (cut g marks)
cut_least g marks l = record {
  closed = cut_closed g g (itself g) marks l.closed;
  least = λ others c s h. l.least others c s (and_parts (is_one_of g.sections s) (marks s) h).1;
}

not_outside : (a b : Bool) → (a && not (a && not b)) ≡ (a && b)
not_outside true true = refl
not_outside true false = refl
not_outside false b = refl

-- what stays is what is marked of the sections
stays_marked : (g : Graph) (marks : Marks) (drops : List SectionId) → drops ≡ outside marks g.sections → (s : SectionId) → staying g drops s ≡ cut g marks s
stays_marked g marks drops d s =
    ap (λ b. is_one_of g.sections s && not b) (ap (λ l. is_one_of l s) d ∙ in_outside marks g.sections s)
    ∙ not_outside (is_one_of g.sections s) (marks s)

pub rest_least : (g : Graph) (drops : List SectionId) → AreDrops true g drops → IsLeastClosed g (staying g drops)
rest_least g drops (m, lm, dm) = subst (IsLeastClosed g) (λ i s. sym (stays_marked g m drops dm s) i) (cut_least g m lm)

-- ---- what graphs that are alike drop

pub alike_drops : (gc : Bool) (g h : Graph) (drops : List SectionId) → AreAlike g h → AreDrops gc g drops → AreDrops gc h drops
alike_drops false g h drops alike d = d
alike_drops true g h drops alike (m, lm, dm) =
    let found = least_exists h in
    let n : Marks = is_one_of found.0 in
    let back = other_way g h alike in
    let same : (s : SectionId) → is_one_of g.sections s ≡ true → m s ≡ n s =
    λ s has. both_ways (m s) (n s)
    (λ marked. (and_parts (is_one_of g.sections s) (n s) (lm.least (cut g n) (cut_closed g h alike n found.1.closed) s marked)).1)
    (λ marked. (and_parts (is_one_of h.sections s) (m s) (found.1.least (cut h m) (cut_closed h g back m lm.closed) s marked)).1)
    in
    (n, found.1, dm ∙ filters_agree (λ s. not (m s)) (λ s. not (n s)) g.sections (λ s has. ap not (same s has)) ∙ ap (outside n) alike.sections)
