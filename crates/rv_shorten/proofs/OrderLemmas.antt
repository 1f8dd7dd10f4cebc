-- Cuts in the order of their places: they are pieces, and what they drop is what their moves do.

use Rattle.std.proofs.Common.{◌≡◌, ℕ, zero, suc, ◌+◌, ◌-◌, ◌%◌, ◌^◌, ◌<◌, ◌≤◌, min, Bool, true, false, cond, ◌&&◌, ◌||◌, nat_lt, nat_le, List, [], ◌∷◌, length, map, slice_index_or, refl, sym, ap, subst, ◌∙◌, arith}
use Rattle.std.specs.Prelude.{◌==◌}
use Rattle.std.proofs.lemmas.Bool.{ltb-true, leb-true, eqb-true, le-leb, eq-eqb, and_parts, and_from}
use Rattle.rv_isa_laws.specs.Bytes.{little_endian}
use Rattle.rv_link_laws.specs.Moves.{dropped}
use Rattle.rv_link_laws.specs.Shortened.{empty_jump, empty_jal, short_call}
use Rattle.rv_shorten.specs.Cut.{Cut, cut_left, move_of, is_next, are_in_order}
use Rattle.rv_cut_laws.specs.Cutting.{is_cut, are_cuts}
use Rattle.rv_shorten.specs.Pieces.{is_next_piece, are_pieces, pieces_dropped}

-- what a slice has past its end
abbrev pub zeros : Cut
zeros = record { place = 0; gone = 0; full = 0; left = 0; detail = 0 }

pub length_left : (c : Cut) → length (short_call c.left c.detail) ≡ cut_left c
length_left c = by (c.left == 2)
  where
    by : (b : Bool) → length (cond b (little_endian 2 empty_jump) (little_endian 4 (empty_jal c.detail))) ≡ cond b 2 4
    by true = refl
    by false = refl

-- a call that stands behind others
pub record IsNext (stop past : ℕ) (c : Cut) : Type 0 where
  pub from : stop ≤ c.place
  pub ends : c.place + 8 < 2 ^ 64
  pub even : c.place % 2 ≡ 0
  pub before : c.gone ≡ past
  pub whole : c.full ≡ 8
  pub part : c.left ≡ cut_left c

pub next : (stop past : ℕ) (c : Cut) → is_next stop past c ≡ true → IsNext stop past c
next stop past c h =
    let one = and_parts (nat_le stop c.place) (nat_lt (c.place + 8) (2 ^ 64) && ((c.place % 2 == 0) && ((c.gone == past) && (nat_lt c.detail 32 && ((c.full == 8) && (c.left == cut_left c)))))) h in
    let two = and_parts (nat_lt (c.place + 8) (2 ^ 64)) ((c.place % 2 == 0) && ((c.gone == past) && (nat_lt c.detail 32 && ((c.full == 8) && (c.left == cut_left c))))) one.1 in
    let even = and_parts (c.place % 2 == 0) ((c.gone == past) && (nat_lt c.detail 32 && ((c.full == 8) && (c.left == cut_left c)))) two.1 in
    let three = and_parts (c.gone == past) (nat_lt c.detail 32 && ((c.full == 8) && (c.left == cut_left c))) even.1 in
    let four = and_parts (nat_lt c.detail 32) ((c.full == 8) && (c.left == cut_left c)) three.1 in
    let five = and_parts (c.full == 8) (c.left == cut_left c) four.1 in
    record {
      from = leb-true stop c.place one.0;
      ends = ltb-true (c.place + 8) (2 ^ 64) two.0;
      even = eqb-true (c.place % 2) 0 even.0;
      before = eqb-true c.gone past three.0;
      whole = eqb-true c.full 8 five.0;
      part = eqb-true c.left (cut_left c) five.1;
    }

pub first : (stop past : ℕ) (c : Cut) (cs : List Cut) → are_in_order stop past (c ∷ cs) ≡ true → IsNext stop past c
first stop past c cs h = next stop past c (and_parts (is_next stop past c) (are_in_order (c.place + c.full) (past + (c.full - c.left)) cs) h).0

pub rest : (stop past : ℕ) (c : Cut) (cs : List Cut) → are_in_order stop past (c ∷ cs) ≡ true → are_in_order (c.place + c.full) (past + (c.full - c.left)) cs ≡ true
rest stop past c cs h = (and_parts (is_next stop past c) (are_in_order (c.place + c.full) (past + (c.full - c.left)) cs) h).1

pub ends_low : (stop past : ℕ) (cs : List Cut) (k : ℕ) (d : Cut) → are_in_order stop past cs ≡ true → k < length cs → (slice_index_or cs k d).place + 8 < 2 ^ 64
ends_low stop past [] k d h inside = absurd (omega arith)
ends_low stop past (c ∷ cs) zero d h inside = (first stop past c cs h).ends
ends_low stop past (c ∷ cs) (suc k) d h inside = ends_low (c.place + c.full) (past + (c.full - c.left)) cs k d (rest stop past c cs h) (omega arith)

-- ---- as pieces

pub as_pieces : (stop past : ℕ) (cs : List Cut) → are_in_order stop past cs ≡ true → are_pieces stop past cs ≡ true
as_pieces stop past [] h = refl
as_pieces stop past (c ∷ cs) h =
    let one = first stop past c cs h in
    and_from (is_next_piece stop past c) (are_pieces (c.place + c.full) (past + (c.full - c.left)) cs)
    (and_from (nat_le stop c.place) (c.gone == past) (le-leb stop c.place one.from) (eq-eqb c.gone past one.before))
    (as_pieces (c.place + c.full) (past + (c.full - c.left)) cs (rest stop past c cs h))

-- ---- as moves

pub moves_dropped : (stop past old : ℕ) (cs : List Cut) → are_in_order stop past cs ≡ true → pieces_dropped cs old ≡ dropped (map move_of cs) old
moves_dropped stop past old [] h = refl
moves_dropped stop past old (c ∷ cs) h =
    let one = first stop past c cs h in
    let later = moves_dropped (c.place + c.full) (past + (c.full - c.left)) old cs (rest stop past c cs h) in
    let long : length (short_call c.left c.detail) ≡ c.left = length_left c ∙ sym one.part in
    ap (λ n. min (n - c.left) (old - (c.place + c.left)) + pieces_dropped cs old) one.whole
    ∙ ap (λ n. min (8 - c.left) (old - (c.place + c.left)) + n) later
    ∙ sym (ap (λ n. min (8 - n) (old - (c.place + n)) + dropped (map move_of cs) old) long)

two_or_four : (c : Cut) → ((length (short_call c.left c.detail) == 2) || (length (short_call c.left c.detail) == 4)) ≡ true
two_or_four c = ap (λ n. (n == 2) || (n == 4)) (length_left c) ∙ by (c.left == 2)
  where
    by : (b : Bool) → ((cond b 2 4 == 2) || (cond b 2 4 == 4)) ≡ true
    by true = refl
    by false = refl

pub as_cuts : (stop past : ℕ) (cs : List Cut) → are_in_order stop past cs ≡ true → are_cuts stop (2 ^ 64 - 1) (map move_of cs) ≡ true
as_cuts stop past [] h = refl
as_cuts stop past (c ∷ cs) h =
    let one = first stop past c cs h in
    let behind = subst (λ n. are_in_order (c.place + n) (past + (c.full - c.left)) cs ≡ true) one.whole (rest stop past c cs h) in
    and_from (is_cut stop (2 ^ 64 - 1) (move_of c)) (are_cuts (c.place + 8) (2 ^ 64 - 1) (map move_of cs))
    (and_from (nat_le stop c.place) (nat_le (c.place + 8) (2 ^ 64 - 1) && ((c.place % 2 == 0) && (true && ((length (short_call c.left c.detail) == 2) || (length (short_call c.left c.detail) == 4))))) (le-leb stop c.place one.from)
    (and_from (nat_le (c.place + 8) (2 ^ 64 - 1)) ((c.place % 2 == 0) && (true && ((length (short_call c.left c.detail) == 2) || (length (short_call c.left c.detail) == 4)))) (le-leb (c.place + 8) (2 ^ 64 - 1) (omega (arith, one.ends)))
    (and_from (c.place % 2 == 0) (true && ((length (short_call c.left c.detail) == 2) || (length (short_call c.left c.detail) == 4))) (eq-eqb (c.place % 2) 0 one.even) (two_or_four c))))
    (as_cuts (c.place + 8) (past + (c.full - c.left)) cs behind)
