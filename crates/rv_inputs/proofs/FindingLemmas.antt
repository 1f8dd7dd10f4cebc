-- The first item that passes a test: of two lists, of a weaker test, and of items with their places.

use Rattle.std.proofs.Common.{◌≡◌, ℕ, zero, suc, ◌+◌, ◌<◌, ◌≤◌, Bool, true, false, cond, List, [], ◌∷◌, Option, Some, None, refl, sym, ap, ◌∙◌, arith}
use Rattle.std.specs.List.{find, slice_get, enumerate_from, AllByRecursion}
use Rattle.std.proofs.lemmas.Bool.{true≢false}
use Rattle.rv_inputs.specs.Left.{passing}

-- ---- two lists

-- ---- a test that fewer pass

fewer_by : {X : Type 0} (p q : X → Bool) (y : X) (ys : List X) (s t : Bool) → (t ≡ true → s ≡ true) → (find p ys ≡ None → find q ys ≡ None) → cond s (Some y) (find p ys) ≡ None → cond t (Some y) (find q ys) ≡ None
fewer_by p q y ys true t passes rest is = cc
fewer_by p q y ys false true passes rest is = absurd (true≢false (sym (passes refl)))
fewer_by p q y ys false false passes rest is = rest is

-- none passes a test that fewer pass
pub find_fewer_none : {X : Type 0} (p q : X → Bool) (xs : List X) → AllByRecursion (λ x. q x ≡ true → p x ≡ true) xs → find p xs ≡ None → find q xs ≡ None
find_fewer_none p q [] each is = refl
find_fewer_none p q (y ∷ ys) each is = fewer_by p q y ys (p y) (q y) each.0 (find_fewer_none p q ys each.1) is

first_by : {X : Type 0} (p q : X → Bool) (y : X) (ys : List X) (x : X) (s t : Bool) → q y ≡ t → (t ≡ true → s ≡ true) → (find p ys ≡ Some x → find q ys ≡ Some x) → q x ≡ true → cond s (Some y) (find p ys) ≡ Some x → cond t (Some y) (find q ys) ≡ Some x
first_by p q y ys x true true at passes rest good is = is
first_by p q y ys x true false at passes rest good is =
    let same : y ≡ x = cc in absurd (true≢false (sym good ∙ sym (ap q same) ∙ at))
first_by p q y ys x false true at passes rest good is = absurd (true≢false (sym (passes refl)))
first_by p q y ys x false false at passes rest good is = rest is

-- the first that passes a test is the first that passes one that fewer pass, if it does
pub find_fewer : {X : Type 0} (p q : X → Bool) (xs : List X) (x : X) → AllByRecursion (λ x. q x ≡ true → p x ≡ true) xs → q x ≡ true → find p xs ≡ Some x → find q xs ≡ Some x
find_fewer p q [] x each good is = cc
find_fewer p q (y ∷ ys) x each good is = first_by p q y ys x (p y) (q y) refl each.0 (find_fewer p q ys x each.1 good) good is

-- ---- items with their places

pub enumerated : {X : Type 0} (P : ℕ × X → Type 0) (n : ℕ) (xs : List X) → ((i m : ℕ) (x : X) → m ≡ n + i → slice_get xs i ≡ Some x → P (m, x)) → AllByRecursion P (enumerate_from n xs)
enumerated P n [] each = tt
enumerated P n (x ∷ xs) each = (each 0 n x (omega arith) refl, enumerated P (n + 1) xs (λ i m y at here. each (suc i) m y (omega (arith, at)) here))

none_by : {X : Type 0} (r : ℕ × X → Bool) (n : ℕ) (x : X) (rest : Option (ℕ × X)) (t : Bool) → r (n, x) ≡ t → t ≡ false → rest ≡ None → cond t (Some (n, x)) rest ≡ None
none_by r n x rest true at fails none = absurd (true≢false fails)
none_by r n x rest false at fails none = none

pub enumerated_none : {X : Type 0} (r : ℕ × X → Bool) (n : ℕ) (xs : List X) → ((i m : ℕ) (x : X) → m ≡ n + i → slice_get xs i ≡ Some x → r (m, x) ≡ false) → find r (enumerate_from n xs) ≡ None
enumerated_none r n [] each = refl
enumerated_none r n (x ∷ xs) each =
    none_by r n x (find r (enumerate_from (n + 1) xs)) (r (n, x)) refl (each 0 n x (omega arith) refl)
    (enumerated_none r (n + 1) xs (λ i m y at here. each (suc i) m y (omega (arith, at)) here))

here_by : {X : Type 0} (n : ℕ) (x : X) (rest : Option (ℕ × X)) (t : Bool) → t ≡ true → cond t (Some (n, x)) rest ≡ Some (n, x)
here_by n x rest true at = refl
here_by n x rest false at = absurd (true≢false (sym at))

later_by : {X : Type 0} (n : ℕ) (x : X) (rest : Option (ℕ × X)) (found : ℕ × X) (t : Bool) → t ≡ false → rest ≡ Some found → cond t (Some (n, x)) rest ≡ Some found
later_by n x rest found true at is = absurd (true≢false at)
later_by n x rest found false at is = is

pair_is : {X : Type 0} (n l : ℕ) (x y : X) → n ≡ l → x ≡ y → ◌≡◌ {A = ℕ × X} (n, x) (l, y)
pair_is n l x y at same = λ i. (at i, same i)

pub enumerated_first : {X : Type 0} (r : ℕ × X → Bool) (n : ℕ) (xs : List X) (k l : ℕ) (y : X) → l ≡ n + k → slice_get xs k ≡ Some y → r (l, y) ≡ true
    → ((i m : ℕ) (x : X) → m ≡ n + i → i < k → slice_get xs i ≡ Some x → r (m, x) ≡ false) → find r (enumerate_from n xs) ≡ Some (l, y)
enumerated_first r n [] k l y at here good before = cc
enumerated_first {X = X} r n (x ∷ xs) zero l y at here good before =
    let same : x ≡ y = cc in
    let place : l ≡ n = omega (arith, at) in
    let pair = pair_is n l x y (sym place) same in
    here_by n x (find r (enumerate_from (n + 1) xs)) (r (n, x)) (ap r pair ∙ good) ∙ ap (λ z. Some z) pair
enumerated_first r n (x ∷ xs) (suc k) l y at here good before =
    later_by n x (find r (enumerate_from (n + 1) xs)) (l, y) (r (n, x)) (before 0 n x (omega arith) (omega arith) refl)
    (enumerated_first r (n + 1) xs k l y (omega (arith, at)) here good (λ i m z j less there. before (suc i) m z (omega (arith, j)) (omega (arith, less)) there))

-- ---- what is found

-- ---- how many are left

no_more_by : (s t : Bool) (m n : ℕ) → (t ≡ true → s ≡ true) → n ≤ m → cond t (suc n) n ≤ cond s (suc m) m
no_more_by true true m n passes le = omega (arith, le)
no_more_by true false m n passes le = omega (arith, le)
no_more_by false true m n passes le = absurd (true≢false (sym (passes refl)))
no_more_by false false m n passes le = le

no_more : {X : Type 0} (p q : X → Bool) (xs : List X) → ((x : X) → q x ≡ true → p x ≡ true) → passing q xs ≤ passing p xs
no_more p q [] passes = omega arith
no_more p q (x ∷ xs) passes = no_more_by (p x) (q x) (passing p xs) (passing q xs) (passes x) (no_more p q xs passes)

less_by : (s t : Bool) (m n : ℕ) → (t ≡ true → s ≡ true) → n < m → cond t (suc n) n < cond s (suc m) m
less_by true true m n passes less = omega (arith, less)
less_by true false m n passes less = omega (arith, less)
less_by false true m n passes less = absurd (true≢false (sym (passes refl)))
less_by false false m n passes less = less

less_here : (s t : Bool) (m n : ℕ) → s ≡ true → t ≡ false → n ≤ m → cond t (suc n) n < cond s (suc m) m
less_here true true m n at fails le = absurd (true≢false fails)
less_here true false m n at fails le = omega (arith, le)
less_here false t m n at fails le = absurd (true≢false (sym at))

-- a test that fewer pass, and one item less
pub fewer_left : {X : Type 0} (p q : X → Bool) (xs : List X) (i : ℕ) (x : X) → ((x : X) → q x ≡ true → p x ≡ true) → slice_get xs i ≡ Some x → p x ≡ true → q x ≡ false → passing q xs < passing p xs
fewer_left p q [] i x passes here at fails = cc
fewer_left p q (y ∷ ys) zero x passes here at fails =
    let same : y ≡ x = cc in
    less_here (p y) (q y) (passing p ys) (passing q ys) (ap p same ∙ at) (ap q same ∙ fails) (no_more p q ys passes)
fewer_left p q (y ∷ ys) (suc i) x passes here at fails = less_by (p y) (q y) (passing p ys) (passing q ys) (passes y) (fewer_left p q ys i x passes here at fails)
