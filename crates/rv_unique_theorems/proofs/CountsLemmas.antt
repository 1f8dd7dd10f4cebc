-- How many elements of a list pass a test.

use Rattle.std.proofs.Common.{◌≡◌, ℕ, zero, suc, ◌+◌, ◌≤◌, Bool, true, false, List, [], ◌∷◌, ◌++◌, map, refl, sym, ap, ◌∙◌, arith, Some}
use Rattle.std.specs.Prelude.{filter, slice_get, if◌then◌else◌}
use Rattle.std.specs.List.{AllByRecursion}
pub use Rattle.rv_isa_laws.specs.Arithmetic.{one_if}

abbrev pub count : {X : Type 0} → (X → Bool) → List X → ℕ
count test [] = 0
count test (x ∷ xs) = one_if (test x) + count test xs

pub count_append : {X : Type 0} (test : X → Bool) (xs ys : List X) → count test (xs ++ ys) ≡ count test xs + count test ys
count_append test [] ys = let n = count test ys in let e : n ≡ 0 + n = omega arith in e
count_append test (x ∷ xs) ys = let rest = count_append test xs ys in omega (arith, rest)

pub one_most : (b : Bool) → one_if b ≤ 1
one_most true = omega arith
one_most false = omega arith

pub one_is : (b : Bool) → b ≡ true → one_if b ≡ 1
one_is true e = refl
one_is false e = absurd (cc)

pub one_none : (b : Bool) → b ≡ false → one_if b ≡ 0
one_none true e = absurd (cc)
one_none false e = refl

-- a test that passes less
pub one_less : (b c : Bool) → (b ≡ true → c ≡ true) → one_if b ≤ one_if c
one_less true c f = let is : one_if c ≡ 1 = one_is c (f refl) in omega (arith, is)
one_less false c f = omega arith

pub count_less : {X : Type 0} (p q : X → Bool) → ((x : X) → p x ≡ true → q x ≡ true) → (xs : List X) → count p xs ≤ count q xs
count_less p q f [] = omega arith
count_less p q f (x ∷ xs) = let one = one_less (p x) (q x) (f x) in let rest = count_less p q f xs in omega (arith, one, rest)

pub count_none : {X : Type 0} (test : X → Bool) (xs : List X) → AllByRecursion (λ x. test x ≡ false) xs → count test xs ≡ 0
count_none test [] h = refl
count_none test (x ∷ xs) (h, hs) = let one = one_none (test x) h in let rest = count_none test xs hs in omega (arith, one, rest)

pub count_map : {X Y : Type 0} (test : Y → Bool) (f : X → Y) (xs : List X) → count test (map f xs) ≡ count (λ x. test (f x)) xs
count_map test f [] = refl
count_map test f (x ∷ xs) = ap (λ n. one_if (test (f x)) + n) (count_map test f xs)

pub count_kept : {X : Type 0} (test keep : X → Bool) (xs : List X) → count test (filter keep xs) ≤ count test xs
count_kept test keep [] = omega arith
count_kept test keep (x ∷ xs) = go (keep x) (count_kept test keep xs)
  where
    go : (b : Bool) → count test (filter keep xs) ≤ count test xs → count test (if b then x ∷ filter keep xs else filter keep xs) ≤ one_if (test x) + count test xs
    go true h = omega (arith, h)
    go false h = omega (arith, h)

-- where what passes is not kept
pub count_dropped : {X : Type 0} (test keep : X → Bool) → ((x : X) → test x ≡ true → keep x ≡ false) → (xs : List X) → count test (filter keep xs) ≡ 0
count_dropped test keep f [] = refl
count_dropped test keep f (x ∷ xs) = go (keep x) refl (test x) refl (count_dropped test keep f xs)
  where
    go : (b : Bool) → keep x ≡ b → (c : Bool) → test x ≡ c → count test (filter keep xs) ≡ 0 → count test (if b then x ∷ filter keep xs else filter keep xs) ≡ 0
    go true e true g h = absurd (let both : true ≡ false = sym e ∙ f x g in cc)
    go true e false g h = let one = one_none (test x) g in omega (arith, one, h)
    go false e c g h = h

-- ---- one that passes stands at one index

pub count_some : {X : Type 0} (test : X → Bool) (xs : List X) (i : ℕ) (x : X) → slice_get xs i ≡ Some x → test x ≡ true → 1 ≤ count test xs
count_some test [] zero x e h = absurd (cc)
count_some test [] (suc i) x e h = absurd (cc)
count_some test (y ∷ ys) zero x e h =
    let same : y ≡ x = cc in
    let one : one_if (test y) ≡ 1 = one_is (test y) (ap test same ∙ h) in
    omega (arith, one)
count_some test (y ∷ ys) (suc i) x e h = let rest = count_some test ys i x e h in omega (arith, rest)

pub one_index : {X : Type 0} (test : X → Bool) (xs : List X) → count test xs ≤ 1 → (i j : ℕ) (x y : X) → slice_get xs i ≡ Some x → slice_get xs j ≡ Some y → test x ≡ true → test y ≡ true → i ≡ j
one_index test [] c zero j x y e f h k = absurd (cc)
one_index test [] c (suc i) j x y e f h k = absurd (cc)
one_index test (z ∷ zs) c zero zero x y e f h k = refl
one_index test (z ∷ zs) c zero (suc j) x y e f h k =
    let same : z ≡ x = cc in
    let one : one_if (test z) ≡ 1 = one_is (test z) (ap test same ∙ h) in
    let rest : 1 ≤ count test zs = count_some test zs j y f k in
    absurd (omega (arith, c, one, rest))
one_index test (z ∷ zs) c (suc i) zero x y e f h k =
    let same : z ≡ y = cc in
    let one : one_if (test z) ≡ 1 = one_is (test z) (ap test same ∙ k) in
    let rest : 1 ≤ count test zs = count_some test zs i x e h in
    absurd (omega (arith, c, one, rest))
one_index test (z ∷ zs) c (suc i) (suc j) x y e f h k =
    let less : count test zs ≤ 1 = omega (arith, c) in
    ap suc (one_index test zs less i j x y e f h k)
