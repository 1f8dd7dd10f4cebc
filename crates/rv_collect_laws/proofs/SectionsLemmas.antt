-- Sections as keys, and lists of them.

use Rattle.std.proofs.Common.{◌≡◌, ◌⊎◌, inl, inr, Bool, true, false, not, ◌&&◌, ◌==◌, if◌then◌else◌, List, [], ◌∷◌, filter, refl, ap, subst, sym, ◌∙◌, arith}
use Rattle.std.specs.List.{AllByRecursion}
use Rattle.std.specs.Cmp.{IsEquivalence, both_ways}
use Rattle.std.proofs.lemmas.Bool.{cases_Bool, and_parts, or_cases, or_left, or_right, or_parts, eqb-true, true≢false}
use Rattle.std.proofs.lemmas.Map.Made.{is_member-filter}
use Rattle.rv_map_laws.specs.declared.map.SectionId.{SectionId}
use Rattle.rv_collect_laws.specs.Graph.{is_same, is_one_of, Marks, outside}

-- what passes the test is the same
pub same_is : (a b : SectionId) → is_same a b ≡ true → a ≡ b
same_is a b h =
    let parts = and_parts (a.file == b.file) (a.section == b.section) h in
    let f : a.file ≡ b.file = eqb-true a.file b.file parts.0 in
    let i : a.section ≡ b.section = eqb-true a.section b.section parts.1 in
    λ j. record { file = f j; section = i j }

same_self : (a : SectionId) → is_same a a ≡ true
same_self a = grind arith

same_back : (a b : SectionId) → is_same a b ≡ true → is_same b a ≡ true
same_back a b h = subst (λ c. is_same c a ≡ true) (same_is a b h) (same_self a)

-- the test is that of a key
pub same_laws : IsEquivalence is_same
same_laws = record {
  refl = same_self;
  symm = λ a b. both_ways (is_same a b) (is_same b a) (same_back a b) (same_back b a);
  congr = λ a b c h. ap (λ d. is_same d c) (same_is a b h);
}

-- ---- a list with one more

pub in_more : (t s : SectionId) (done : List SectionId) → is_one_of done s ≡ true → is_one_of (t ∷ done) s ≡ true
in_more t s done h = or_right (is_same s t) (is_one_of done s) h

pub in_now : (t : SectionId) (done : List SectionId) → is_one_of (t ∷ done) t ≡ true
in_now t done = or_left (is_same t t) (is_one_of done t) (same_self t)

-- what a list lacks is none of its sections
pub apart : (t : SectionId) (done : List SectionId) → is_one_of done t ≡ false → AllByRecursion (λ s. is_same t s ≡ false) done
apart t [] new = tt
apart t (x ∷ xs) new = let parts = or_parts (is_same t x) (is_one_of xs t) new in (parts.0, apart t xs parts.1)

-- ---- tests over a list

-- one of a list passes a test, or none does
pub some_or_none : (p : SectionId → Bool) (xs : List SectionId)
    → ((x : SectionId) × (is_one_of xs x ≡ true) × (p x ≡ true)) ⊎ ((x : SectionId) → is_one_of xs x ≡ true → p x ≡ false)
some_or_none p [] = inr (λ x h. absurd (true≢false (sym h)))
some_or_none p (x ∷ xs) =
    elim (cases_Bool (p x)) [
      | inl passes ↦ inl (x, in_now x xs, passes)
      | inr fails ↦ elim (some_or_none p xs) [
        | inl found ↦ inl (found.0, in_more x found.0 xs found.1, found.2)
        | inr others ↦ inr (λ y h. elim (or_cases (is_same y x) (is_one_of xs y) h) [
          | inl here ↦ subst (λ z. p z ≡ false) (sym (same_is y x here)) fails
          | inr there ↦ others y there
        ])
      ]
    ]

-- tests that agree on a list keep the same of it
pub filters_agree : (p q : SectionId → Bool) (xs : List SectionId) → ((x : SectionId) → is_one_of xs x ≡ true → p x ≡ q x) → filter p xs ≡ filter q xs
filters_agree p q [] h = refl
filters_agree p q (x ∷ xs) h =
    ap (λ (b : Bool). if b then x ∷ filter p xs else filter p xs) (h x (in_now x xs))
    ∙ ap (λ l. if q x then x ∷ l else l) (filters_agree p q xs (λ y there. h y (in_more x y xs there)))

-- what is outside a set
pub in_outside : (marks : Marks) (sections : List SectionId) (s : SectionId) → is_one_of (outside marks sections) s ≡ (is_one_of sections s && not (marks s))
in_outside marks sections s = is_member-filter same_laws (λ t. not (marks t)) s (λ t h. ap (λ z. not (marks z)) (same_is s t h)) sections
