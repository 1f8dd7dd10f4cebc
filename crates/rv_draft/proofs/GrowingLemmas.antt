-- A section that grows.

use Rattle.std.proofs.Common.{◌≡◌, ℕ, zero, suc, ◌<◌, Bool, true, false, List, [], ◌∷◌, ◌++◌, length, set, get_or, refl, sym, ap, ◌∙◌, arith}
use Rattle.std.proofs.lemmas.Bool.{eqb-true, eq-eqb}
use Rattle.std.proofs.lemmas.List.{length-set}
use Rattle.std.specs.Global.{Vec}
use Rattle.std.specs.Prelude.{◌==◌, if◌then◌else◌}
use Rattle.rv_draft.specs.Code.{GrowsBy, bytes_in}

set_same : (xs : List (Vec ℕ)) (k : ℕ) (v : Vec ℕ) → k < length xs → bytes_in (set xs k v) k ≡ v.items
set_same [] zero v h = absurd (omega (arith, h))
set_same [] (suc k) v h = absurd (omega (arith, h))
set_same (x ∷ xs) zero v h = refl
set_same (x ∷ xs) (suc k) v h = let below : k < length xs = omega (arith, h) in set_same xs k v below

set_other : (xs : List (Vec ℕ)) (k j : ℕ) (v : Vec ℕ) → (j ≡ k → ⊥) → bytes_in (set xs k v) j ≡ bytes_in xs j
set_other [] zero j v other = refl
set_other [] (suc k) j v other = refl
set_other (x ∷ xs) zero zero v other = absurd (other refl)
set_other (x ∷ xs) zero (suc j) v other = refl
set_other (x ∷ xs) (suc k) zero v other = refl
set_other (x ∷ xs) (suc k) (suc j) v other = set_other xs k j v (λ e. other (ap suc e))

grown_at : (xs : List (Vec ℕ)) (k j : ℕ) (v : Vec ℕ) (more : List ℕ) → k < length xs → v.items ≡ bytes_in xs k ++ more
    → bytes_in (set xs k v) j ≡ (if j == k then bytes_in xs j ++ more else bytes_in xs j)
grown_at xs k j v more h e = go (j == k) refl
  where
    go : (b : Bool) → (j == k) ≡ b → bytes_in (set xs k v) j ≡ (if b then bytes_in xs j ++ more else bytes_in xs j)
    go true f =
        let same : j ≡ k = eqb-true j k f in
        ap (λ n. bytes_in (set xs k v) n) same ∙ set_same xs k v h ∙ e ∙ ap (λ n. bytes_in xs n ++ more) (sym same)
    go false f = set_other xs k j v (λ same. let g : (j == k) ≡ true = eq-eqb j k same in absurd (cc))

pub read_at : (xs : List (Vec ℕ)) (k : ℕ) (d : Vec ℕ) → k < length xs → (get_or xs k d).items ≡ bytes_in xs k
read_at [] zero d h = absurd (omega (arith, h))
read_at [] (suc k) d h = absurd (omega (arith, h))
read_at (x ∷ xs) zero d h = refl
read_at (x ∷ xs) (suc k) d h = let below : k < length xs = omega (arith, h) in read_at xs k d below

pub grows_set : (xs : List (Vec ℕ)) (k : ℕ) (v : Vec ℕ) (more : List ℕ) → k < length xs → v.items ≡ bytes_in xs k ++ more → GrowsBy xs (set xs k v) k more
grows_set xs k v more h e = (length-set xs k v, λ j. grown_at xs k j v more h e)
