-- The longest run of bytes that pass a test, with and without a bound.

use Rattle.std.proofs.Common.{◌≡◌, ℕ, zero, suc, ◌+◌, ◌<◌, ◌≤◌, Bool, true, false, cond, List, [], ◌∷◌, ◌++◌, length, take, drop, refl, arith}
use Rattle.std.proofs.lemmas.Bool.{and_parts, and_from}
use Rattle.std.specs.List.{list_all, prefix_len}
use Rattle.std.proofs.Math.Numerals.{one-add}

-- one of two, by a test
pub pick : {C : Type 0} (F : C → Type 0) (t : Bool) (x y : C) → (t ≡ true → F x) → (t ≡ false → F y) → F (cond t x y)
pick F true x y f g = f refl
pick F false x y f g = g refl

-- the rest doesn't go on with the run
abbrev pub Breaks : (ℕ → Bool) → List ℕ → Type 0
Breaks p [] = Unit {0}
Breaks p (b ∷ bs) = p b ≡ false

pub run_is : (p : ℕ → Bool) (xs rest : List ℕ) → list_all p xs ≡ true → Breaks p rest → prefix_len p (xs ++ rest) ≡ length xs
run_is p [] [] all stops = refl
run_is p [] (b ∷ bs) all stops = rw stops refl
run_is p (x ∷ xs) rest all stops =
    let h = and_parts (p x) (list_all p xs) all in
    rw (h.0, run_is p xs rest h.1 stops) (one-add (length xs))

pub run_all : (p : ℕ → Bool) (xs : List ℕ) → list_all p (take (prefix_len p xs) xs) ≡ true
run_all p [] = refl
run_all p (x ∷ xs) = go (p x) refl (run_all p xs)
  where
    go : (t : Bool) → p x ≡ t → list_all p (take (prefix_len p xs) xs) ≡ true → list_all p (take (cond t (1 + prefix_len p xs) 0) (x ∷ xs)) ≡ true
    go true e ih = rw one-add (and_from (p x) (list_all p (take (prefix_len p xs) xs)) e ih)
    go false e ih = refl

pub run_breaks : (p : ℕ → Bool) (xs : List ℕ) → Breaks p (drop (prefix_len p xs) xs)
run_breaks p [] = tt
run_breaks p (x ∷ xs) = go (p x) refl (run_breaks p xs)
  where
    go : (t : Bool) → p x ≡ t → Breaks p (drop (prefix_len p xs) xs) → Breaks p (drop (cond t (1 + prefix_len p xs) 0) (x ∷ xs))
    go true e ih = rw one-add ih
    go false e ih = e

pub run_within : (p : ℕ → Bool) (xs : List ℕ) → prefix_len p xs ≤ length xs
run_within p [] = omega arith
run_within p (x ∷ xs) = go (p x) (run_within p xs)
  where
    go : (t : Bool) → prefix_len p xs ≤ length xs → cond t (1 + prefix_len p xs) 0 ≤ suc (length xs)
    go true ih = omega arith
    go false ih = omega arith

-- a run of at most k: the rest doesn't go on with it, unless it is full
abbrev pub BreaksBelow : ℕ → (ℕ → Bool) → ℕ → List ℕ → Type 0
BreaksBelow k p n [] = Unit {0}
BreaksBelow k p n (b ∷ bs) = n < k → p b ≡ false

pub short_is : (p : ℕ → Bool) (k : ℕ) (xs rest : List ℕ) → list_all p xs ≡ true → length xs ≤ k → BreaksBelow k p (length xs) rest
    → prefix_len p (take k (xs ++ rest)) ≡ length xs
short_is p zero [] rest all le stops = refl
short_is p (suc k) [] [] all le stops = refl
short_is p (suc k) [] (b ∷ bs) all le stops = rw (stops (omega arith)) refl
short_is p zero (x ∷ xs) rest all le stops = absurd (omega arith)
short_is p (suc k) (x ∷ xs) rest all le stops =
    let h = and_parts (p x) (list_all p xs) all in
    rw (h.0, short_is p k xs rest h.1 (omega arith) (fewer rest stops)) (one-add (length xs))
  where
    fewer : (rest : List ℕ) → BreaksBelow (suc k) p (suc (length xs)) rest → BreaksBelow k p (length xs) rest
    fewer [] s = tt
    fewer (b ∷ bs) s = λ lt. s (omega arith)

pub short_within : (p : ℕ → Bool) (k : ℕ) (xs : List ℕ) → (prefix_len p (take k xs) ≤ length xs) × (prefix_len p (take k xs) ≤ k)
short_within p zero xs = (omega arith, omega arith)
short_within p (suc k) [] = (omega arith, omega arith)
short_within p (suc k) (x ∷ xs) = go (p x) (short_within p k xs)
  where
    go : (t : Bool) → (prefix_len p (take k xs) ≤ length xs) × (prefix_len p (take k xs) ≤ k)
        → (cond t (1 + prefix_len p (take k xs)) 0 ≤ suc (length xs)) × (cond t (1 + prefix_len p (take k xs)) 0 ≤ suc k)
    go true ih = (omega (arith, ih.0), omega (arith, ih.1))
    go false ih = (omega arith, omega arith)

pub short_all : (p : ℕ → Bool) (k : ℕ) (xs : List ℕ) → list_all p (take (prefix_len p (take k xs)) xs) ≡ true
short_all p zero xs = refl
short_all p (suc k) [] = refl
short_all p (suc k) (x ∷ xs) = go (p x) refl (short_all p k xs)
  where
    go : (t : Bool) → p x ≡ t → list_all p (take (prefix_len p (take k xs)) xs) ≡ true → list_all p (take (cond t (1 + prefix_len p (take k xs)) 0) (x ∷ xs)) ≡ true
    go true e ih = rw one-add (and_from (p x) (list_all p (take (prefix_len p (take k xs)) xs)) e ih)
    go false e ih = refl

pub short_breaks : (p : ℕ → Bool) (k : ℕ) (xs : List ℕ) → BreaksBelow k p (prefix_len p (take k xs)) (drop (prefix_len p (take k xs)) xs)
short_breaks p zero [] = tt
short_breaks p zero (x ∷ xs) = λ lt. absurd (omega arith)
short_breaks p (suc k) [] = tt
short_breaks p (suc k) (x ∷ xs) = go (p x) refl (short_breaks p k xs)
  where
    more : (n : ℕ) (rest : List ℕ) → BreaksBelow k p n rest → BreaksBelow (suc k) p (suc n) rest
    more n [] s = tt
    more n (b ∷ bs) s = λ lt. s (omega arith)

    go : (t : Bool) → p x ≡ t → BreaksBelow k p (prefix_len p (take k xs)) (drop (prefix_len p (take k xs)) xs)
        → BreaksBelow (suc k) p (cond t (1 + prefix_len p (take k xs)) 0) (drop (cond t (1 + prefix_len p (take k xs)) 0) (x ∷ xs))
    go true e ih = rw one-add (more (prefix_len p (take k xs)) (drop (prefix_len p (take k xs)) xs) ih)
    go false e ih = λ lt. e
