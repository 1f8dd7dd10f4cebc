-- What a greater power of two divides, a smaller one divides.

use Rattle.std.specs.Prelude.{◌==◌}
use Rattle.std.specs.List.{AllByRecursion, list_any}
use Rattle.std.proofs.Common.{◌≡◌, ℕ, ◌^◌, Bool, true, false, ◌||◌, List, [], ◌∷◌, refl, sym, subst}
use Rattle.std.proofs.lemmas.Bool.{eqb-true}

pub any_power : (P : ℕ → Type 0) (n : ℕ) (ks : List ℕ) → AllByRecursion (λ k. P (2 ^ k)) ks → list_any (λ k. n == 2 ^ k) ks ≡ true → P n
any_power P n [] each e = absurd (cc)
any_power P n (k ∷ ks) each e = by (n == 2 ^ k) refl e (any_power P n ks each.1)
  where
    by : (b : Bool) → (n == 2 ^ k) ≡ b → (b || list_any (λ j. n == 2 ^ j) ks) ≡ true → (list_any (λ j. n == 2 ^ j) ks ≡ true → P n) → P n
    by true is e rest = subst P (sym (eqb-true n (2 ^ k) is)) each.0
    by false is e rest = rest e
