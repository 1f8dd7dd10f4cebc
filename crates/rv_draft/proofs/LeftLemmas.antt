-- What is left of a list, from an element on.

use Rattle.std.proofs.Common.{◌≡◌, ℕ, ◌+◌, List, ◌∷◌, length, ap, ◌∙◌, arith, length-append}
use Rattle.std.specs.Prelude.{flat_map}

-- the lengths of what is left
pub long_more : (rest next : List (List ℕ)) (x : List ℕ) (old more all : ℕ) → rest ≡ x ∷ next → more ≡ length x
    → old + length (flat_map (λ l. l) rest) ≡ all → old + more + length (flat_map (λ l. l) next) ≡ all
long_more rest next x old more all here size h =
    let joined : length (flat_map (λ l. l) rest) ≡ length x + length (flat_map (λ l. l) next) =
    ap (λ l. length (flat_map (λ k. k) l)) here ∙ length-append x (flat_map (λ l. l) next) in
    omega (arith, joined, size, h)
