-- The elements of a list so far, by their indices.

use Rattle.std.proofs.Common.{◌≡◌, ℕ, zero, suc, ◌<◌, List, [], ◌∷◌, length, take, map, get_or, refl, sym, ap, arith, Some, None}
use Rattle.std.specs.List.{slice_get}

module _ {A B : Type 0} (f : A → B) where
  -- the next has no element at its own index yet
  pub none_yet : (xs : List A) (i : ℕ) → slice_get (map f (take i xs)) i ≡ None
  none_yet [] zero = refl
  none_yet [] (suc i) = refl
  none_yet (x ∷ xs) zero = refl
  none_yet (x ∷ xs) (suc i) = none_yet xs i

  pub taken_next : (xs : List A) (i : ℕ) (r : A) → i < length xs → r ≡ get_or xs i r → slice_get (map f (take (suc i) xs)) i ≡ Some (f r)
  taken_next [] i r inside is = absurd (omega arith)
  taken_next (x ∷ xs) zero r inside is = ap (λ y. Some (f y)) (sym is)
  taken_next (x ∷ xs) (suc i) r inside is = taken_next xs i r (omega arith) is

  -- and the others stay
  pub taken_others : (xs : List A) (i k : ℕ) → (i ≡ k → ⊥) → slice_get (map f (take (suc i) xs)) k ≡ slice_get (map f (take i xs)) k
  taken_others [] zero k apart = refl
  taken_others [] (suc i) k apart = refl
  taken_others (x ∷ xs) zero zero apart = absurd (apart refl)
  taken_others (x ∷ xs) zero (suc k) apart = refl
  taken_others (x ∷ xs) (suc i) zero apart = refl
  taken_others (x ∷ xs) (suc i) (suc k) apart = taken_others xs i k (λ e. apart (ap suc e))
