-- The instructions that paddings in order lose.

use Rattle.std.proofs.Common.{◌≡◌, ℕ, zero, suc, ◌+◌, ◌-◌, ◌%◌, ◌<◌, ◌≤◌, true, cond, nat_le, List, [], ◌∷◌, ◌++◌, length, map, drop, slice_index, slice_index_or, refl, sym, ap, ◌∙◌, arith}
use Rattle.std.specs.List.{AllWithin}
use Rattle.std.proofs.lemmas.Bool.{lt-leb, le-leb, and_left, and_right, and_from}
use Rattle.std.proofs.lemmas.List.{append_assoc, drop_more}
use Rattle.std.proofs.lemmas.List.Sums.{sum_by-cons}
use Rattle.rv_object_laws.specs.Padding.{operations_in, no_operations}
use Rattle.rv_link_laws.specs.Moves.{lost, lost_in}
use Rattle.rv_relax.specs.Pieces.{Piece}
use Rattle.rv_relax.specs.Paddings.{move_of, are_in_order, loses, lost_sums, sum_of_first}
use Rattle.rv_object_laws.proofs.NopsLemmas.{length_even}
use Rattle.rv_relax.proofs.OrderLemmas.{first, rest}
use Rattle.rv_relax.proofs.PiecedLemmas.{no_piece}

-- what so many paddings from the first on lose
abbrev pub lost_by_first : ℕ → List Piece → ℕ
lost_by_first zero ps = 0
lost_by_first (suc k) [] = 0
lost_by_first (suc k) (p ∷ ps) = loses p + lost_by_first k ps

lost_more : (offset bytes : ℕ) (p : Piece) (ps : List Piece) → lost (map move_of (p ∷ ps)) offset bytes ≡ lost_in offset bytes (move_of p) + lost (map move_of ps) offset bytes
lost_more offset bytes p ps = sum_by-cons (λ m. lost_in offset bytes m) (move_of p) (map move_of ps)

-- a padding that begins before the range, one that ends behind it, one inside
not_before : (offset bytes : ℕ) (p : Piece) → p.place < offset → lost_in offset bytes (move_of p) ≡ 0
not_before offset bytes p h =
    ap (λ b. cond b (operations_in p.full - operations_in (length (no_operations p.left))) 0) (and_left (nat_le offset p.place) (nat_le (p.place + p.full) (offset + bytes)) (lt-leb offset p.place h))

not_behind : (offset bytes : ℕ) (p : Piece) → offset + bytes < p.place + p.full → lost_in offset bytes (move_of p) ≡ 0
not_behind offset bytes p h =
    ap (λ b. cond b (operations_in p.full - operations_in (length (no_operations p.left))) 0) (and_right (nat_le offset p.place) (nat_le (p.place + p.full) (offset + bytes)) (lt-leb (p.place + p.full) (offset + bytes) h))

inside : (offset bytes : ℕ) (p : Piece) → p.left % 2 ≡ 0 → offset ≤ p.place → p.place + p.full ≤ offset + bytes → lost_in offset bytes (move_of p) ≡ operations_in p.full - operations_in p.left
inside offset bytes p even low high =
    ap (λ b. cond b (operations_in p.full - operations_in (length (no_operations p.left))) 0) (and_from (nat_le offset p.place) (nat_le (p.place + p.full) (offset + bytes)) (le-leb offset p.place low) (le-leb (p.place + p.full) (offset + bytes) high))
    ∙ ap (λ n. operations_in p.full - operations_in n) (length_even p.left even)

-- what the paddings lose that do not end behind the range, less what those lose that begin before it: of those before
-- an index the second holds, of those before another the first
pub counted : (stop past offset bytes : ℕ) (ps : List Piece) → are_in_order stop past ps ≡ true → (before ended : ℕ) → before ≤ length ps → ended ≤ length ps
    → AllWithin (λ (p : Piece). p.place < offset) ps 0 before → AllWithin (λ (p : Piece). offset ≤ p.place) ps before (length ps)
    → AllWithin (λ (p : Piece). p.place + p.full ≤ offset + bytes) ps 0 ended → AllWithin (λ (p : Piece). offset + bytes < p.place + p.full) ps ended (length ps)
    → lost (map move_of ps) offset bytes ≡ lost_by_first ended ps - lost_by_first before ps
counted stop past offset bytes [] h zero zero few many early from near far = refl
counted stop past offset bytes [] h zero (suc ended) few many early from near far = absurd (omega arith)
counted stop past offset bytes [] h (suc before) ended few many early from near far = absurd (omega arith)
counted stop past offset bytes (p ∷ ps) h zero zero few many early from near far =
    let here = not_behind offset bytes p (far 0 p (omega arith) (omega arith)) in
    let later = counted (p.place + p.full) (past + (p.full - p.left)) offset bytes ps (rest stop past p ps h) zero zero (omega arith) (omega arith) (λ j d l r. absurd (omega arith)) (λ j d l r. from (suc j) d (omega arith) (omega arith)) (λ j d l r. absurd (omega arith)) (λ j d l r. far (suc j) d (omega arith) (omega arith)) in
    omega (arith, lost_more offset bytes p ps)
counted stop past offset bytes (p ∷ ps) h zero (suc ended) few many early from near far =
    let here = inside offset bytes p (first stop past p ps h).even (from 0 p (omega arith) (omega arith)) (near 0 p (omega arith) (omega arith)) in
    let later = counted (p.place + p.full) (past + (p.full - p.left)) offset bytes ps (rest stop past p ps h) zero ended (omega arith) (omega arith) (λ j d l r. absurd (omega arith)) (λ j d l r. from (suc j) d (omega arith) (omega arith)) (λ j d l r. near (suc j) d (omega arith) (omega arith)) (λ j d l r. far (suc j) d (omega arith) (omega arith)) in
    omega (arith, lost_more offset bytes p ps)
counted stop past offset bytes (p ∷ ps) h (suc before) zero few many early from near far =
    let here = not_before offset bytes p (early 0 p (omega arith) (omega arith)) in
    let later = counted (p.place + p.full) (past + (p.full - p.left)) offset bytes ps (rest stop past p ps h) before zero (omega arith) (omega arith) (λ j d l r. early (suc j) d (omega arith) (omega arith)) (λ j d l r. from (suc j) d (omega arith) (omega arith)) (λ j d l r. absurd (omega arith)) (λ j d l r. far (suc j) d (omega arith) (omega arith)) in
    omega (arith, lost_more offset bytes p ps)
counted stop past offset bytes (p ∷ ps) h (suc before) (suc ended) few many early from near far =
    let here = not_before offset bytes p (early 0 p (omega arith) (omega arith)) in
    let later = counted (p.place + p.full) (past + (p.full - p.left)) offset bytes ps (rest stop past p ps h) before ended (omega arith) (omega arith) (λ j d l r. early (suc j) d (omega arith) (omega arith)) (λ j d l r. from (suc j) d (omega arith) (omega arith)) (λ j d l r. near (suc j) d (omega arith) (omega arith)) (λ j d l r. far (suc j) d (omega arith) (omega arith)) in
    omega (arith, lost_more offset bytes p ps)

-- ---- by the sums

-- a padding has what those up to it lose
sum_at : (lost : ℕ) (ps : List Piece) (k : ℕ) → k < length ps → slice_index (lost_sums lost ps) k ≡ lost + lost_by_first (suc k) ps
sum_at lost [] k inside = absurd (omega arith)
sum_at lost (p ∷ ps) zero inside = omega arith
sum_at lost (p ∷ ps) (suc k) inside = let later = sum_at (lost + loses p) ps k (omega arith) in omega arith

pub sum_is : (ps : List Piece) (k : ℕ) → k ≤ length ps → sum_of_first k (lost_sums 0 ps) ≡ lost_by_first k ps
sum_is ps zero inside = refl
sum_is ps (suc k) inside = let more : 0 + lost_by_first (suc k) ps ≡ lost_by_first (suc k) ps = omega arith in sum_at 0 ps k (omega arith) ∙ more

pub sums_length : (lost : ℕ) (ps : List Piece) → length (lost_sums lost ps) ≡ length ps
sums_length lost [] = refl
sums_length lost (p ∷ ps) = ap suc (sums_length (lost + loses p) ps)

-- and one more behind the others
pub one_summed : (ps : List Piece) (i lost more : ℕ) (sums whole : List ℕ) → i < length ps → more ≡ loses (slice_index_or ps i no_piece) → sums ++ lost_sums lost (drop i ps) ≡ whole
    → (sums ++ (lost + more) ∷ []) ++ lost_sums (lost + more) (drop (i + 1) ps) ≡ whole
one_summed ps i lost more sums whole inside is so_far =
    append_assoc sums ((lost + more) ∷ []) (lost_sums (lost + more) (drop (i + 1) ps))
    ∙ ap (λ n. sums ++ ((lost + n) ∷ lost_sums (lost + n) (drop (i + 1) ps))) is
    ∙ sym (ap (λ l. sums ++ lost_sums lost l) (drop_more ps i no_piece inside)) ∙ so_far

-- no more are lost than there are bytes
pub few_lost : (p : Piece) → loses p ≤ p.full
few_lost p = omega arith
