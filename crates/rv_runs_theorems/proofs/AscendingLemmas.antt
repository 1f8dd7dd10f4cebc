-- Every list has an order: its elements ascend, and those that tie stand as they stood.

use Rattle.std.proofs.Common.{◌≡◌, ℕ, suc, zero, ◌+◌, ◌<◌, Bool, true, false, List, [], ◌∷◌, length, map, refl, ap, ◌∙◌, arith, get_or}
use Rattle.std.proofs.lemmas.Bool.{and_parts, not-true}
use Rattle.std.specs.Prelude.{not, filter, if◌then◌else◌}
use Rattle.std.specs.Cmp.{IsStrictWeakOrder}
use Rattle.std.specs.List.{AllByRecursion}
use Rattle.std.specs.List.Sorted.{IsSortedBy, IsStableBy, ties}

pub true_false : {A : Type 0} (b : Bool) → b ≡ true → b ≡ false → A
true_false true e f = absurd (cc)
true_false false e f = absurd (cc)

-- ---- filters

module _ {X : Type 0} (lt : X → X → Bool) where
  -- ---- lists that ascend

  abbrev AtLeast : X → List X → Type 0
  AtLeast x ys = AllByRecursion (λ y. lt y x ≡ false) ys

  abbrev Ascends : List X → Type 0
  Ascends [] = Unit {0}
  Ascends (x ∷ xs) = AtLeast x xs × Ascends xs

  next : (xs : List X) (k : ℕ) (d : X) → Ascends xs → suc k < length xs → lt (get_or xs (suc k) d) (get_or xs k d) ≡ false
  next [] k d h within = absurd (omega arith)
  next (x ∷ []) k d h within = absurd (omega arith)
  next (x ∷ y ∷ ys) zero d h within = h.0.0
  next (x ∷ y ∷ ys) (suc k) d h within = next (y ∷ ys) k d h.1 (omega arith)

  pub sorted_from : (xs : List X) → Ascends xs → IsSortedBy lt xs
  sorted_from xs h k d low within =
      let one : k + 1 ≡ suc k = omega arith in
      ap (λ n. lt (get_or xs n d) (get_or xs k d)) one ∙ next xs k d h (omega (arith, within))

  at_least_kept : (test : X → Bool) (x : X) (ys : List X) → AtLeast x ys → AtLeast x (filter test ys)
  at_least_kept test x [] h = tt
  at_least_kept test x (y ∷ ys) (q, qs) = go (test y) (at_least_kept test x ys qs)
    where
      go : (b : Bool) → AtLeast x (filter test ys) → AtLeast x (if b then y ∷ filter test ys else filter test ys)
      go true rest = (q, rest)
      go false rest = rest

  pub ascends_kept : (test : X → Bool) (xs : List X) → Ascends xs → Ascends (filter test xs)
  ascends_kept test [] h = tt
  ascends_kept test (x ∷ xs) (q, qs) = go (test x) (ascends_kept test xs qs)
    where
      go : (b : Bool) → Ascends (filter test xs) → Ascends (if b then x ∷ filter test xs else filter test xs)
      go true rest = (at_least_kept test x xs q, rest)
      go false rest = rest

  -- ---- an order of a list

  -- before the first element that is not less
  abbrev put : X → List X → List X
  put x [] = x ∷ []
  put x (y ∷ ys) = if lt y x then y ∷ put x ys else x ∷ y ∷ ys

  abbrev pub ordered : List X → List X
  ordered [] = []
  ordered (x ∷ xs) = put x (ordered xs)

  all_put : (P : X → Type 0) (x : X) (ys : List X) → P x → AllByRecursion P ys → AllByRecursion P (put x ys)
  all_put P x [] q h = (q, tt)
  all_put P x (y ∷ ys) q (r, rs) = go (lt y x) (all_put P x ys q rs)
    where
      go : (b : Bool) → AllByRecursion P (put x ys) → AllByRecursion P (if b then y ∷ put x ys else x ∷ y ∷ ys)
      go true rest = (r, rest)
      go false rest = (q, (r, rs))

  pub all_ordered : (P : X → Type 0) (xs : List X) → AllByRecursion P xs → AllByRecursion P (ordered xs)
  all_ordered P [] h = tt
  all_ordered P (x ∷ xs) (q, qs) = all_put P x (ordered xs) q (all_ordered P xs qs)

  module _ (o : IsStrictWeakOrder lt) where
    at_least_on : (x y : X) (ys : List X) → lt y x ≡ false → AtLeast y ys → AtLeast x ys
    at_least_on x y [] first h = tt
    at_least_on x y (z ∷ zs) first (q, qs) = (o.chain z y x q first, at_least_on x y zs first qs)

    put_ascends : (x : X) (ys : List X) → Ascends ys → Ascends (put x ys)
    put_ascends x [] h = (tt, tt)
    put_ascends x (y ∷ ys) (q, qs) = go (lt y x) refl (put_ascends x ys qs)
      where
        go : (b : Bool) → lt y x ≡ b → Ascends (put x ys) → Ascends (if b then y ∷ put x ys else x ∷ y ∷ ys)
        go true less rest = (all_put (λ z. lt z y ≡ false) x ys (o.one_way y x less) q, rest)
        go false level rest = ((level, at_least_on x y ys level q), (q, qs))

    pub ordered_ascends : (xs : List X) → Ascends (ordered xs)
    ordered_ascends [] = tt
    ordered_ascends (x ∷ xs) = put_ascends x (ordered xs) (ordered_ascends xs)

    -- of two elements that tie with one, neither is less
    pub tied : (z x y : X) → ties lt z x ≡ true → ties lt z y ≡ true → lt y x ≡ false
    tied z x y one two =
        let with_x = and_parts (not (lt z x)) (not (lt x z)) one in
        let with_y = and_parts (not (lt z y)) (not (lt y z)) two in
        o.chain y z x (not-true (lt y z) with_y.1) (not-true (lt z x) with_x.0)

  -- a test that passes no two of which one is less
  abbrev pub IsLevel : (X → Bool) → Type 0
  IsLevel t = (x y : X) → t x ≡ true → t y ≡ true → lt y x ≡ false

  module _ (t : X → Bool) (level : IsLevel t) where
    -- x goes past y only where one of them does not pass
    past : (x y : X) (ys : List X) (b c : Bool) → t x ≡ b → t y ≡ c → lt y x ≡ true
        → (if c then y ∷ (if b then x ∷ ys else ys) else (if b then x ∷ ys else ys)) ≡ (if b then x ∷ (if c then y ∷ ys else ys) else (if c then y ∷ ys else ys))
    past x y ys true true one two less = true_false (lt y x) less (level x y one two)
    past x y ys true false one two less = refl
    past x y ys false true one two less = refl
    past x y ys false false one two less = refl

    put_level : (x : X) (ys : List X) → filter t (put x ys) ≡ filter t (x ∷ ys)
    put_level x [] = refl
    put_level x (y ∷ ys) = go (lt y x) refl (put_level x ys)
      where
        go : (b : Bool) → lt y x ≡ b → filter t (put x ys) ≡ filter t (x ∷ ys) → filter t (if b then y ∷ put x ys else x ∷ y ∷ ys) ≡ filter t (x ∷ y ∷ ys)
        go true less rest = ap (λ zs. if t y then y ∷ zs else zs) rest ∙ past x y (filter t ys) (t x) (t y) refl refl less
        go false other rest = refl

    -- those that pass it stand as they stood
    pub ordered_level : (xs : List X) → filter t (ordered xs) ≡ filter t xs
    ordered_level [] = refl
    ordered_level (x ∷ xs) = put_level x (ordered xs) ∙ ap (λ zs. if t x then x ∷ zs else zs) (ordered_level xs)

  pub ordered_stable : IsStrictWeakOrder lt → (xs : List X) → IsStableBy lt xs (ordered xs)
  ordered_stable o xs z = ordered_level (ties lt z) (tied o z) xs

-- what ascends by a field, its fields ascend
pub ascends_by : {X Y : Type 0} (lt : Y → Y → Bool) (f : X → Y) (xs : List X) → Ascends (λ x y. lt (f x) (f y)) xs → Ascends lt (map f xs)
ascends_by lt f [] h = tt
ascends_by {X} lt f (x ∷ xs) (q, qs) = (least xs q, ascends_by lt f xs qs)
  where
    least : (ys : List X) → AtLeast (λ x y. lt (f x) (f y)) x ys → AtLeast lt (f x) (map f ys)
    least [] h = tt
    least (y ∷ ys) (r, rs) = (r, least ys rs)
