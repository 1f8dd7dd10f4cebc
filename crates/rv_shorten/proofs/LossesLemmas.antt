-- The instructions that cuts in order lose: one each.

use Rattle.std.proofs.Common.{◌≡◌, ℕ, zero, suc, ◌+◌, ◌-◌, ◌<◌, ◌≤◌, Bool, true, false, cond, nat_le, List, [], ◌∷◌, length, map, refl, ap, ◌∙◌, arith}
use Rattle.std.specs.Prelude.{◌==◌}
use Rattle.std.specs.List.{AllWithin}
use Rattle.std.proofs.lemmas.Bool.{lt-leb, le-leb, and_left, and_right, and_from}
use Rattle.std.proofs.lemmas.List.Sums.{sum_by-cons}
use Rattle.rv_object_laws.specs.Padding.{operations_in}
use Rattle.rv_link_laws.specs.Moves.{lost, lost_in}
use Rattle.rv_link_laws.specs.Shortened.{short_call}
use Rattle.rv_shorten.specs.Cut.{Cut, move_of}
use Rattle.rv_shorten.proofs.OrderLemmas.{length_left}

lost_more : (offset bytes : ℕ) (c : Cut) (cs : List Cut) → lost (map move_of (c ∷ cs)) offset bytes ≡ lost_in offset bytes (move_of c) + lost (map move_of cs) offset bytes
lost_more offset bytes c cs = sum_by-cons (λ m. lost_in offset bytes m) (move_of c) (map move_of cs)

-- a call has two instructions, and one is left
one_less : (c : Cut) → operations_in 8 - operations_in (length (short_call c.left c.detail)) ≡ 1
one_less c = ap (λ n. operations_in 8 - operations_in n) (length_left c) ∙ by (c.left == 2)
  where
    by : (b : Bool) → operations_in 8 - operations_in (cond b 2 4) ≡ 1
    by true = refl
    by false = refl

-- one that begins before the range, one that ends behind it, one inside
not_before : (offset bytes : ℕ) (c : Cut) → c.place < offset → lost_in offset bytes (move_of c) ≡ 0
not_before offset bytes c h =
    ap (λ b. cond b (operations_in 8 - operations_in (length (short_call c.left c.detail))) 0) (and_left (nat_le offset c.place) (nat_le (c.place + 8) (offset + bytes)) (lt-leb offset c.place h))

not_behind : (offset bytes : ℕ) (c : Cut) → offset + bytes < c.place + 8 → lost_in offset bytes (move_of c) ≡ 0
not_behind offset bytes c h =
    ap (λ b. cond b (operations_in 8 - operations_in (length (short_call c.left c.detail))) 0) (and_right (nat_le offset c.place) (nat_le (c.place + 8) (offset + bytes)) (lt-leb (c.place + 8) (offset + bytes) h))

inside : (offset bytes : ℕ) (c : Cut) → offset ≤ c.place → c.place + 8 ≤ offset + bytes → lost_in offset bytes (move_of c) ≡ 1
inside offset bytes c low high =
    ap (λ b. cond b (operations_in 8 - operations_in (length (short_call c.left c.detail))) 0) (and_from (nat_le offset c.place) (nat_le (c.place + 8) (offset + bytes)) (le-leb offset c.place low) (le-leb (c.place + 8) (offset + bytes) high))
    ∙ one_less c

-- what the calls lose that do not begin before the range, less those that do not end behind it: of those before an
-- index the first, of those before another the second holds
pub counted : (offset bytes : ℕ) (cs : List Cut) (before ended : ℕ) → before ≤ length cs → ended ≤ length cs
    → AllWithin (λ (c : Cut). c.place < offset) cs 0 before → AllWithin (λ (c : Cut). offset ≤ c.place) cs before (length cs)
    → AllWithin (λ (c : Cut). c.place + 8 ≤ offset + bytes) cs 0 ended → AllWithin (λ (c : Cut). offset + bytes < c.place + 8) cs ended (length cs)
    → lost (map move_of cs) offset bytes ≡ ended - before
counted offset bytes [] before ended few many early from near far = omega arith
counted offset bytes (c ∷ cs) zero zero few many early from near far =
    let here = not_behind offset bytes c (far 0 c (omega arith) (omega arith)) in
    let later = counted offset bytes cs zero zero (omega arith) (omega arith) (λ j d l r. absurd (omega arith)) (λ j d l r. from (suc j) d (omega arith) (omega arith)) (λ j d l r. absurd (omega arith)) (λ j d l r. far (suc j) d (omega arith) (omega arith)) in
    omega (arith, lost_more offset bytes c cs)
counted offset bytes (c ∷ cs) zero (suc ended) few many early from near far =
    let here = inside offset bytes c (from 0 c (omega arith) (omega arith)) (near 0 c (omega arith) (omega arith)) in
    let later = counted offset bytes cs zero ended (omega arith) (omega arith) (λ j d l r. absurd (omega arith)) (λ j d l r. from (suc j) d (omega arith) (omega arith)) (λ j d l r. near (suc j) d (omega arith) (omega arith)) (λ j d l r. far (suc j) d (omega arith) (omega arith)) in
    omega (arith, lost_more offset bytes c cs)
counted offset bytes (c ∷ cs) (suc before) zero few many early from near far =
    let here = not_before offset bytes c (early 0 c (omega arith) (omega arith)) in
    let later = counted offset bytes cs before zero (omega arith) (omega arith) (λ j d l r. early (suc j) d (omega arith) (omega arith)) (λ j d l r. from (suc j) d (omega arith) (omega arith)) (λ j d l r. absurd (omega arith)) (λ j d l r. far (suc j) d (omega arith) (omega arith)) in
    omega (arith, lost_more offset bytes c cs)
counted offset bytes (c ∷ cs) (suc before) (suc ended) few many early from near far =
    let here = not_before offset bytes c (early 0 c (omega arith) (omega arith)) in
    let later = counted offset bytes cs before ended (omega arith) (omega arith) (λ j d l r. early (suc j) d (omega arith) (omega arith)) (λ j d l r. from (suc j) d (omega arith) (omega arith)) (λ j d l r. near (suc j) d (omega arith) (omega arith)) (λ j d l r. far (suc j) d (omega arith) (omega arith)) in
    omega (arith, lost_more offset bytes c cs)
