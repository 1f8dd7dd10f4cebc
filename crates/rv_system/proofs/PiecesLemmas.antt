-- Bytes that are read in pieces.

use Rattle.std.proofs.Common.{◌≡◌, ◌≤◌, ◌<◌, ℕ, zero, suc, List, [], ◌∷◌, ◌++◌, length, take, Option, refl, sym, ap, ◌∙◌, subst, arith}
use Rattle.std.specs.Io.KnownBytes.{Consumes}
use Rattle.std.proofs.KnownBytes.{Consumes-trans}
use Rattle.std.proofs.lemmas.List.{append-nil}

-- the front of a piece that was written over the front of its old bytes
pub front : (n count : ℕ) (buf old : List ℕ) → n ≤ length buf → n ≤ count → take n (take count (buf ++ old)) ≡ take n buf
front zero count buf old h k = refl
front (suc n) count [] old h k = absurd (omega arith)
front (suc n) zero (b ∷ buf) old h k = absurd (omega arith)
front (suc n) (suc count) (b ∷ buf) old h k = ap (λ xs. b ∷ xs) (front n count buf old (omega arith) (omega arith))

pub has_room : (count : ℕ) (buf old : List ℕ) → 0 < count → 0 < length buf → 0 < length (take count (buf ++ old))
has_room zero buf old h k = absurd (omega arith)
has_room (suc count) [] old h k = absurd (omega arith)
has_room (suc count) (b ∷ buf) old h k = omega arith

-- a read of nothing leaves what was read before
pub read_nothing : (a b c : Option (List ℕ)) (all buf : List ℕ) (n : ℕ) → Consumes a b all → Consumes b c (take n buf) → n ≡ 0 → Consumes a c all
read_nothing a b c all buf n before step none =
    subst (λ xs. Consumes a c xs) (append-nil all) (subst (λ n. Consumes a c (all ++ take n buf)) none (Consumes-trans a b c all (take n buf) before step))

-- a read of some bytes adds them
pub read_more : (a b c : Option (List ℕ)) (all more some new : List ℕ) → Consumes a b all → Consumes b c some → more ≡ some → new ≡ all ++ more → Consumes a c new
read_more a b c all more some new before step same is =
    subst (λ xs. Consumes a c xs) (sym (is ∙ ap (λ xs. all ++ xs) same)) (Consumes-trans a b c all some before step)
