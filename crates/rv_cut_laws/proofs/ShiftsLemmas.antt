-- What calls that are cut short do to offsets and to the count of bytes.

use Rattle.std.proofs.Common.{◌≡◌, ℕ, ◌+◌, ◌-◌, ◌%◌, ◌^◌, ◌<◌, ◌≤◌, ◌⊎◌, inl, inr, min, Bool, true, false, ◌&&◌, ◌||◌, nat_le, List, [], ◌∷◌, ◌++◌, length, take, drop, refl, ap, subst, arith}
use Rattle.std.specs.Prelude.{◌==◌}
use Rattle.std.proofs.lemmas.Bool.{leb-true, leb-false, eqb-true, and_parts, or_cases}
use Rattle.std.proofs.lemmas.List.{length-append, length-take, length-drop}
use Rattle.rv_link_laws.specs.Moves.{Move, dropped, new_offset, kept}
use Rattle.rv_link_laws.specs.Lists.{In}
use Rattle.rv_cut_laws.specs.Cutting.{is_cut, are_cuts}

pub record IsCut (stop size : ℕ) (m : Move) : Type 0 where
  pub from : stop ≤ m.place
  pub ends : m.place + 8 ≤ size
  pub even : m.place % 2 ≡ 0
  pub full_is : m.full ≡ 8
  pub left : (length m.text ≡ 2) ⊎ (length m.text ≡ 4)

pub first_cut : (stop size : ℕ) (m : Move) (ms : List Move) → are_cuts stop size (m ∷ ms) ≡ true → IsCut stop size m
first_cut stop size m ms h =
    let all = and_parts (is_cut stop size m) (are_cuts (m.place + 8) size ms) h in
    let one = and_parts (nat_le stop m.place) (nat_le (m.place + 8) size && ((m.place % 2 == 0) && ((m.full == 8) && ((length m.text == 2) || (length m.text == 4))))) all.0 in
    let two = and_parts (nat_le (m.place + 8) size) ((m.place % 2 == 0) && ((m.full == 8) && ((length m.text == 2) || (length m.text == 4)))) one.1 in
    let three = and_parts (m.place % 2 == 0) ((m.full == 8) && ((length m.text == 2) || (length m.text == 4))) two.1 in
    let four = and_parts (m.full == 8) ((length m.text == 2) || (length m.text == 4)) three.1 in
    record {
      from = leb-true stop m.place one.0;
      ends = leb-true (m.place + 8) size two.0;
      even = eqb-true (m.place % 2) 0 three.0;
      full_is = eqb-true m.full 8 four.0;
      left = either (or_cases (length m.text == 2) (length m.text == 4) four.1);
    }
  where
    either : (length m.text == 2 ≡ true) ⊎ (length m.text == 4 ≡ true) → (length m.text ≡ 2) ⊎ (length m.text ≡ 4)
    either (inl e) = inl (eqb-true (length m.text) 2 e)
    either (inr e) = inr (eqb-true (length m.text) 4 e)

pub other_cuts : (stop size : ℕ) (m : Move) (ms : List Move) → are_cuts stop size (m ∷ ms) ≡ true → are_cuts (m.place + 8) size ms ≡ true
other_cuts stop size m ms h = (and_parts (is_cut stop size m) (are_cuts (m.place + 8) size ms) h).1

-- 2 or 4 bytes are left
pub some_left : (m : Move) → (length m.text ≡ 2) ⊎ (length m.text ≡ 4) → (2 ≤ length m.text) × (length m.text ≤ 4)
some_left m (inl e) = (omega arith, omega arith)
some_left m (inr e) = (omega arith, omega arith)

pub drops : (stop size old : ℕ) (m : Move) (ms : List Move) → IsCut stop size m → dropped (m ∷ ms) old ≡ min (8 - length m.text) (old - (m.place + length m.text)) + dropped ms old
drops stop size old m ms one = ap (λ n. min (n - length m.text) (old - (m.place + length m.text)) + dropped ms old) one.full_is

pub none_yet : (stop size old : ℕ) (ms : List Move) → are_cuts stop size ms ≡ true → old ≤ stop → dropped ms old ≡ 0
none_yet stop size old [] h low = refl
none_yet stop size old (m ∷ ms) h low =
    let one = first_cut stop size m ms h in
    let later = none_yet (m.place + 8) size old ms (other_cuts stop size m ms h) (omega (arith, one.from)) in
    let sum = drops stop size old m ms one in
    omega (arith, one.from)

-- no more is dropped between two offsets than lies between them
pub slow : (stop size a b : ℕ) (ms : List Move) → are_cuts stop size ms ≡ true → a ≤ b → dropped ms b ≤ dropped ms a + (b - a)
slow stop size a b [] h le = omega arith
slow stop size a b (m ∷ ms) h le =
    let one = first_cut stop size m ms h in
    let rest = other_cuts stop size m ms h in
    let long = some_left m one.left in
    let from_a = slow (m.place + 8) size a b ms rest le in
    let sum_a = drops stop size a m ms one in
    let sum_b = drops stop size b m ms one in
    by (nat_le b (m.place + 8)) (λ t. leb-true b (m.place + 8) t) (λ f. leb-false b (m.place + 8) f) one long from_a sum_a sum_b
    (λ low. none_yet (m.place + 8) size b ms rest low) (none_yet (m.place + 8) size (m.place + 8) ms rest (omega arith))
    (λ high. slow (m.place + 8) size (m.place + 8) b ms rest high)
  where
    by : (low : Bool) → (low ≡ true → b ≤ m.place + 8) → (low ≡ false → m.place + 8 < b) → IsCut stop size m → (2 ≤ length m.text) × (length m.text ≤ 4)
        → dropped ms b ≤ dropped ms a + (b - a)
        → dropped (m ∷ ms) a ≡ min (8 - length m.text) (a - (m.place + length m.text)) + dropped ms a
        → dropped (m ∷ ms) b ≡ min (8 - length m.text) (b - (m.place + length m.text)) + dropped ms b
        → (b ≤ m.place + 8 → dropped ms b ≡ 0) → dropped ms (m.place + 8) ≡ 0
        → (m.place + 8 ≤ b → dropped ms b ≤ dropped ms (m.place + 8) + (b - (m.place + 8)))
        → dropped (m ∷ ms) b ≤ dropped (m ∷ ms) a + (b - a)
    by true below above one long from_a sum_a sum_b none_b none few_b = let low = below refl in let zero_b = none_b low in omega (arith, long.0, long.1)
    by false below above one long from_a sum_a sum_b none_b none few_b = let high = above refl in let few = few_b (omega arith) in omega (arith, long.0, long.1)

-- no more is dropped before an offset than stands before it
pub within : (stop size old : ℕ) (ms : List Move) → are_cuts stop size ms ≡ true → dropped ms old ≤ old
within stop size old ms h =
    let none = none_yet stop size 0 ms h (omega arith) in
    let all = slow stop size 0 old ms h (omega arith) in
    omega arith

pub rising : (stop size a b : ℕ) (ms : List Move) → are_cuts stop size ms ≡ true → a ≤ b → new_offset ms a ≤ new_offset ms b
rising stop size a b ms h le =
    let low = within stop size a ms h in
    let all = slow stop size a b ms h le in
    omega arith

-- bytes that no call meets stay together
pub rigid : (stop size a w : ℕ) (ms : List Move) → are_cuts stop size ms ≡ true → ((m : Move) → In m ms → (a + w ≤ m.place) ⊎ (m.place + 8 ≤ a)) → dropped ms (a + w) ≡ dropped ms a
rigid stop size a w [] h clear = refl
rigid stop size a w (m ∷ ms) h clear =
    let one = first_cut stop size m ms h in
    let rest = other_cuts stop size m ms h in
    let long = some_left m one.left in
    let later = rigid (m.place + 8) size a w ms rest (λ n i. clear n (inr i)) in
    let sum_a = drops stop size a m ms one in
    let sum_b = drops stop size (a + w) m ms one in
    let apart = clear m (inl refl) in
    omega (arith, long.0, long.1)

pub stays : (stop size a w : ℕ) (ms : List Move) → are_cuts stop size ms ≡ true → ((m : Move) → In m ms → (a + w ≤ m.place) ⊎ (m.place + 8 ≤ a)) → new_offset ms (a + w) ≡ new_offset ms a + w
stays stop size a w ms h clear =
    let same = rigid stop size a w ms h clear in
    let low = within stop size a ms h in
    omega arith

behind : (stop size : ℕ) (m : Move) (ms : List Move) → are_cuts stop size ms ≡ true → In m ms → (stop ≤ m.place) × ((2 ≤ length m.text) × (length m.text ≤ 4))
behind stop size m [] h i = elim i [ ]
behind stop size m (n ∷ ms) h (inl is) = subst (λ x. (stop ≤ x.place) × ((2 ≤ length x.text) × (length x.text ≤ 4))) is (let one = first_cut stop size n ms h in (one.from, some_left n one.left))
behind stop size m (n ∷ ms) h (inr i) =
    let one = first_cut stop size n ms h in
    let later = behind (n.place + 8) size m ms (other_cuts stop size n ms h) i in
    (omega (arith, one.from, later.0), later.1)

-- and the bytes that are left of a call
left_together : (stop size : ℕ) (m : Move) (ms : List Move) → are_cuts stop size ms ≡ true → In m ms → dropped ms (m.place + length m.text) ≡ dropped ms m.place
left_together stop size m [] h i = elim i [ ]
left_together stop size m (n ∷ ms) h (inl is) = subst (λ x. dropped (n ∷ ms) (x.place + length x.text) ≡ dropped (n ∷ ms) x.place) is (
    let one = first_cut stop size n ms h in
    let rest = other_cuts stop size n ms h in
    let long = some_left n one.left in
    let none = none_yet (n.place + 8) size n.place ms rest (omega arith) in
    let none_behind = none_yet (n.place + 8) size (n.place + length n.text) ms rest (omega (arith, long.1)) in
    let sum = drops stop size n.place n ms one in
    let sum_behind = drops stop size (n.place + length n.text) n ms one in
    omega arith)
left_together stop size m (n ∷ ms) h (inr i) =
    let one = first_cut stop size n ms h in
    let rest = other_cuts stop size n ms h in
    let long = some_left n one.left in
    let far = behind (n.place + 8) size m ms rest i in
    let later = left_together (n.place + 8) size m ms rest i in
    let sum = drops stop size m.place n ms one in
    let sum_behind = drops stop size (m.place + length m.text) n ms one in
    omega (arith, far.0, long.0, long.1)

pub left_stays : (stop size : ℕ) (m : Move) (ms : List Move) → are_cuts stop size ms ≡ true → In m ms → new_offset ms (m.place + length m.text) ≡ new_offset ms m.place + length m.text
left_stays stop size m ms h i =
    let same = left_together stop size m ms h i in
    let low = within stop size m.place ms h in
    omega arith

pub length_of_left : (stop size : ℕ) (m : Move) (ms : List Move) → are_cuts stop size ms ≡ true → In m ms → (length m.text ≡ 2) ⊎ (length m.text ≡ 4)
length_of_left stop size m [] h i = elim i [ ]
length_of_left stop size m (n ∷ ms) h (inl is) = subst (λ x. (length x.text ≡ 2) ⊎ (length x.text ≡ 4)) is (first_cut stop size n ms h).left
length_of_left stop size m (n ∷ ms) h (inr i) = length_of_left (n.place + 8) size m ms (other_cuts stop size n ms h) i

-- even offsets stay even
dropped_even : (stop size old : ℕ) (ms : List Move) → are_cuts stop size ms ≡ true → old % 2 ≡ 0 → dropped ms old % 2 ≡ 0
dropped_even stop size old [] h even = refl
dropped_even stop size old (m ∷ ms) h even =
    let one = first_cut stop size m ms h in
    let later = dropped_even (m.place + 8) size old ms (other_cuts stop size m ms h) even in
    let sum = drops stop size old m ms one in
    let here = one.even in
    let left = one.left in
    omega arith

pub stays_even : (stop size old : ℕ) (ms : List Move) → are_cuts stop size ms ≡ true → old % 2 ≡ 0 → new_offset ms old % 2 ≡ 0
stays_even stop size old ms h even =
    let same = dropped_even stop size old ms h even in
    let low = within stop size old ms h in
    omega arith

-- ---- bytes

pub length_kept_from : (at size : ℕ) (ms : List Move) (bytes : List ℕ) → are_cuts at size ms ≡ true → at + length bytes ≡ size → length (kept at ms bytes) + dropped ms size ≡ length bytes
length_kept_from at size [] bytes h is = omega arith
length_kept_from at size (m ∷ ms) bytes h is =
    let one = first_cut at size m ms h in
    let rest = other_cuts at size m ms h in
    let long = some_left m one.left in
    let sum = drops at size size m ms one in
    let behind = ap (λ n. length (take (m.place - at) bytes ++ (m.text ++ kept (m.place + n) ms (drop (m.place + n - at) bytes)))) one.full_is in
    let fewer = length-drop (m.place + 8 - at) bytes in
    let later = length_kept_from (m.place + 8) size ms (drop (m.place + 8 - at) bytes) rest (omega (arith, one.from, one.ends)) in
    let front = length-take (m.place - at) bytes in
    let all = length-append (take (m.place - at) bytes) (m.text ++ kept (m.place + 8) ms (drop (m.place + 8 - at) bytes)) in
    let two = length-append m.text (kept (m.place + 8) ms (drop (m.place + 8 - at) bytes)) in
    omega (arith, one.from, one.ends, long.0, long.1)

pub length_kept : (ms : List Move) (bytes : List ℕ) → are_cuts 0 (length bytes) ms ≡ true → length (kept 0 ms bytes) ≡ new_offset ms (length bytes)
length_kept ms bytes h =
    let all = length_kept_from 0 (length bytes) ms bytes h (omega arith) in
    omega arith

-- behind all calls nothing more is dropped
all_dropped : (stop size a b : ℕ) (ms : List Move) → are_cuts stop size ms ≡ true → size ≤ a → size ≤ b → dropped ms a ≡ dropped ms b
all_dropped stop size a b [] h far further = refl
all_dropped stop size a b (m ∷ ms) h far further =
    let one = first_cut stop size m ms h in
    let rest = other_cuts stop size m ms h in
    let long = some_left m one.left in
    let later = all_dropped (m.place + 8) size a b ms rest far further in
    let sum_a = drops stop size a m ms one in
    let sum_b = drops stop size b m ms one in
    omega (arith, one.ends, long.0, long.1)

-- more of the bytes before an offset that is further on are dropped
pub more_dropped : (a b : ℕ) (ms : List Move) → a ≤ b → dropped ms a ≤ dropped ms b
more_dropped a b [] le = omega arith
more_dropped a b (m ∷ ms) le = let later = more_dropped a b ms le in omega arith

-- what is dropped of bytes, also where their end is no number of 64 bits
pub record Within (offset bytes end : ℕ) (ms : List Move) : Type 0 where
  pub some : dropped ms offset ≤ dropped ms end
  pub few : dropped ms end - dropped ms offset ≤ bytes
  pub left : new_offset ms (offset + bytes) - new_offset ms offset ≡ bytes - (dropped ms end - dropped ms offset)

pub dropped_within : (offset bytes end : ℕ) (ms : List Move) → are_cuts 0 (2 ^ 64 - 1) ms ≡ true → end ≡ min (offset + bytes) (2 ^ 64 - 1) → Within offset bytes end ms
dropped_within offset bytes end ms h is = by (nat_le (offset + bytes) (2 ^ 64 - 1)) (λ t. leb-true (offset + bytes) (2 ^ 64 - 1) t) (λ f. leb-false (offset + bytes) (2 ^ 64 - 1) f)
  where
    same : dropped ms end ≡ dropped ms (offset + bytes) → Within offset bytes end ms
    same e =
        let more = more_dropped offset (offset + bytes) ms (omega arith) in
        let few = slow 0 (2 ^ 64 - 1) offset (offset + bytes) ms h (omega arith) in
        let low = within 0 (2 ^ 64 - 1) offset ms h in
        record { some = omega arith; few = omega arith; left = omega arith }

    by : (b : Bool) → (b ≡ true → offset + bytes ≤ 2 ^ 64 - 1) → (b ≡ false → 2 ^ 64 - 1 < offset + bytes) → Within offset bytes end ms
    by true low high = let le = low refl in let at : end ≡ offset + bytes = omega arith in same (ap (dropped ms) at)
    by false low high = let gt = high refl in same (all_dropped 0 (2 ^ 64 - 1) end (offset + bytes) ms h (omega arith) (omega arith))
