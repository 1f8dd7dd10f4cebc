-- A stable sort by a key gives the one list in order, that of insertion from the last to the first.

use Rattle.std.proofs.Common.{◌≡◌, ℕ, zero, suc, ◌<◌, ◌≤◌, Bool, true, false, cond, List, [], ◌∷◌, length, get_or, filter, nat_cmp, nat_le, is_lt, refl, sym, ap, ◌∙◌, arith, inl, inr, suc-le-suc, zero-le}
use Rattle.std.proofs.lemmas.Bool.{cond-true, cond-false, cases_Bool, leb-true, and_parts, and_from}
use Rattle.std.proofs.lemmas.Bool.Decides.{nat_tests}
use Rattle.std.specs.List.{list_all}
use Rattle.std.specs.List.Sorted.{ties, IsNonDecreasingBy, IsStableByKey}
use Rattle.rv_list_laws.proofs.FilterLemmas.{filter_kept, filter_dropped}

ties_at : (m n : ℕ) → (ties (λ x y. is_lt (nat_cmp x y)) m n ≡ true → m ≡ n) × (m ≡ n → ties (λ x y. is_lt (nat_cmp x y)) m n ≡ true)
ties_at m n = (λ h. grind (arith, nat_tests), λ h. grind (arith, nat_tests))

above : (m n : ℕ) → nat_le m n ≡ false → n < m
above m n h = grind (arith, nat_tests)

module _ {X : Type 0} (key : X → ℕ) where
  -- one put before what has its key or a greater one
  abbrev pub inserted_by : X → List X → List X
  inserted_by c [] = c ∷ []
  inserted_by c (d ∷ ds) = cond (nat_le (key c) (key d)) (c ∷ d ∷ ds) (d ∷ inserted_by c ds)

  abbrev pub ordered_by : List X → List X
  ordered_by [] = []
  ordered_by (c ∷ cs) = inserted_by c (ordered_by cs)

  -- what has one key
  abbrev pub same : X → X → Bool
  same = ties (λ x y. is_lt (nat_cmp (key x) (key y)))

  pub same_true : (x y : X) → same x y ≡ true → (key x) ≡ (key y)
  same_true x y = (ties_at (key x) (key y)).0

  same_from : (x y : X) → (key x) ≡ (key y) → same x y ≡ true
  same_from x y = (ties_at (key x) (key y)).1

  -- ---- one more

  goes_first : (c d : X) (ds : List X) → nat_le (key c) (key d) ≡ true → inserted_by c (d ∷ ds) ≡ c ∷ d ∷ ds
  goes_first c d ds h = cond-true _ _ _ h

  goes_on : (c d : X) (ds : List X) → nat_le (key c) (key d) ≡ false → inserted_by c (d ∷ ds) ≡ d ∷ inserted_by c ds
  goes_on c d ds h = cond-false _ _ _ h

  filter_inserted : (x c : X) (ds : List X) → filter (same x) (inserted_by c ds) ≡ filter (same x) (c ∷ ds)
  filter_inserted x c [] = refl
  filter_inserted x c (d ∷ ds) =
      let p = same x in
      elim (cases_Bool (nat_le (key c) (key d))) [
        | inl first ↦ ap (filter p) (goes_first c d ds first)
        | inr past ↦
            ap (filter p) (goes_on c d ds past)
            ∙ elim (cases_Bool (p d)) [
              | inr without ↦
                  filter_dropped p d (inserted_by c ds) without ∙ filter_inserted x c ds
                  ∙ ap (λ l. cond (p c) (c ∷ l) l) (sym (filter_dropped p d ds without))
              | inl with ↦
                  elim (cases_Bool (p c)) [
                    | inl both ↦ absurd (omega (arith, same_true x c both, same_true x d with, above (key c) (key d) past))
                    | inr only ↦
                        filter_kept p d (inserted_by c ds) with ∙ ap (λ l. d ∷ l) (filter_inserted x c ds ∙ filter_dropped p c ds only)
                        ∙ sym (filter_dropped p c (d ∷ ds) only ∙ filter_kept p d ds with)
                  ]
            ]
      ]

  filter_ordered : (x : X) (cs : List X) → filter (same x) (ordered_by cs) ≡ filter (same x) cs
  filter_ordered x [] = refl
  filter_ordered x (c ∷ cs) = filter_inserted x c (ordered_by cs) ∙ ap (λ l. cond (same x c) (c ∷ l) l) (filter_ordered x cs)

  -- ---- in order

  abbrev pub AreAtLeast : ℕ → List X → Type 0
  AreAtLeast n [] = Unit {0}
  AreAtLeast n (y ∷ ys) = (n ≤ (key y)) × AreAtLeast n ys

  abbrev pub Rises : List X → Type 0
  Rises [] = Unit {0}
  Rises (y ∷ ys) = AreAtLeast (key y) ys × Rises ys

  pub at_least_lower : (n m : ℕ) (ys : List X) → n ≤ m → AreAtLeast m ys → AreAtLeast n ys
  at_least_lower n m [] le h = tt
  at_least_lower n m (y ∷ ys) le h = let first = h.0 in (omega arith, at_least_lower n m ys le h.1)

  at_least_inserted : (n : ℕ) (c : X) (ys : List X) → n ≤ (key c) → AreAtLeast n ys → AreAtLeast n (inserted_by c ys)
  at_least_inserted n c [] le h = (le, tt)
  at_least_inserted n c (y ∷ ys) le (one, h) = go (nat_le (key c) (key y)) (at_least_inserted n c ys le h)
    where
      go : (b : Bool) → AreAtLeast n (inserted_by c ys) → AreAtLeast n (cond b (c ∷ y ∷ ys) (y ∷ inserted_by c ys))
      go true more = (le, (one, h))
      go false more = (one, more)

  rises_inserted : (c : X) (ys : List X) → Rises ys → Rises (inserted_by c ys)
  rises_inserted c [] h = (tt, tt)
  rises_inserted c (y ∷ ys) (low, h) = go (nat_le (key c) (key y)) refl (rises_inserted c ys h)
    where
      go : (b : Bool) → nat_le (key c) (key y) ≡ b → Rises (inserted_by c ys) → Rises (cond b (c ∷ y ∷ ys) (y ∷ inserted_by c ys))
      go true e more =
          let le = leb-true (key c) (key y) e in
          ((le, at_least_lower (key c) (key y) ys le low), (low, h))
      go false e more =
          let past = above (key c) (key y) e in
          let le : (key y) ≤ (key c) = omega (arith, past) in
          (at_least_inserted (key y) c ys le low, more)

  rises_ordered : (cs : List X) → Rises (ordered_by cs)
  rises_ordered [] = tt
  rises_ordered (c ∷ cs) = rises_inserted c (ordered_by cs) (rises_ordered cs)

  at_least_at : (n : ℕ) (ys : List X) (d : X) → ((j : ℕ) → j < length ys → n ≤ key (get_or ys j d)) → AreAtLeast n ys
  at_least_at n [] d h = tt
  at_least_at n (y ∷ ys) d h = (h zero (suc-le-suc zero-le), at_least_at n ys d (λ j lt. h (suc j) (suc-le-suc lt)))

  pub rises_sorted : (ys : List X) → IsNonDecreasingBy key ys → Rises ys
  rises_sorted [] h = tt
  rises_sorted (y ∷ ys) h = (
    at_least_at (key y) ys y (λ j lt. h zero (suc j) y zero-le (suc-le-suc lt)),
    rises_sorted ys (λ i j d le lt. h (suc i) (suc j) d (suc-le-suc le) (suc-le-suc lt)),
  )

  -- ---- one list alone

  at_least_found : (n : ℕ) (x : X) (ys : List X) (w : X) (ws : List X) → AreAtLeast n ys → filter (same x) ys ≡ w ∷ ws → n ≤ (key x)
  at_least_found n x [] w ws h e = absurd (cc)
  at_least_found n x (y ∷ ys) w ws h e =
      elim (cases_Bool (same x y)) [
        | inl with ↦ omega (arith, h.0, same_true x y with)
        | inr without ↦ at_least_found n x ys w ws h.1 (sym (filter_dropped (same x) y ys without) ∙ e)
      ]

  pub one_alone : (ys zs : List X) → Rises ys → Rises zs → ((x : X) → filter (same x) ys ≡ filter (same x) zs) → ys ≡ zs
  one_alone [] [] left right each = refl
  one_alone [] (z ∷ zs) left right each =
      let clash = each z ∙ filter_kept (same z) z zs (same_from z z refl) in absurd (cc)
  one_alone (y ∷ ys) [] left right each =
      let clash = sym (each y) ∙ filter_kept (same y) y ys (same_from y y refl) in absurd (cc)
  one_alone (y ∷ ys) (z ∷ zs) left right each =
      let at_y = filter_kept (same y) y ys (same_from y y refl) in
      let at_z = filter_kept (same z) z zs (same_from z z refl) in
      let up = at_least_found (key z) y (z ∷ zs) y _ (omega arith, right.0) (sym (each y) ∙ at_y) in
      let down = at_least_found (key y) z (y ∷ ys) z _ (omega arith, left.0) (each z ∙ at_z) in
      let heads = sym at_y ∙ each y ∙ filter_kept (same y) z zs (same_from y z (omega (arith, up, down))) in
      let head : y ≡ z = cc in
      let tails : (x : X) → filter (same x) ys ≡ filter (same x) zs =
      λ x. elim (cases_Bool (same x y)) [
        | inl with ↦
            let both = sym (filter_kept (same x) y ys with) ∙ each x ∙ filter_kept (same x) z zs (ap (same x) (sym head) ∙ with) in cc
        | inr without ↦
            sym (filter_dropped (same x) y ys without) ∙ each x ∙ filter_dropped (same x) z zs (ap (same x) (sym head) ∙ without)
      ] in
      ap (λ w. w ∷ ys) head ∙ ap (λ l. z ∷ l) (one_alone ys zs left.1 right.1 tails)

  pub sorted_is : (xs ys : List X) → IsNonDecreasingBy key ys → IsStableByKey key nat_cmp xs ys → ys ≡ ordered_by xs
  sorted_is xs ys sorted stable =
      one_alone ys (ordered_by xs) (rises_sorted ys sorted) (rises_ordered xs) (λ x. stable x ∙ sym (filter_ordered x xs))

  -- ---- what all pass

  all_inserted : (p : X → Bool) (r : X) (qs : List X) → p r ≡ true → list_all p qs ≡ true → list_all p (inserted_by r qs) ≡ true
  all_inserted p r [] one h = and_from (p r) true one refl
  all_inserted p r (q ∷ qs) one h =
      let both = and_parts (p q) (list_all p qs) h in
      by (nat_le (key r) (key q)) both.0 (all_inserted p r qs one both.1)
    where
      by : (b : Bool) → p q ≡ true → list_all p (inserted_by r qs) ≡ true → list_all p (cond b (r ∷ q ∷ qs) (q ∷ inserted_by r qs)) ≡ true
      by true here more = and_from (p r) (list_all p (q ∷ qs)) one h
      by false here more = and_from (p q) (list_all p (inserted_by r qs)) here more

  pub all_ordered : (p : X → Bool) (rs : List X) → list_all p rs ≡ true → list_all p (ordered_by rs) ≡ true
  all_ordered p [] h = refl
  all_ordered p (r ∷ rs) h =
      let both = and_parts (p r) (list_all p rs) h in
      all_inserted p r (ordered_by rs) both.0 (all_ordered p rs both.1)
