-- Paddings in the order of their places: they are pieces, and what they drop and lack is what their moves do.

use Rattle.std.proofs.Common.{◌≡◌, ℕ, zero, suc, ◌+◌, ◌-◌, ◌%◌, ◌^◌, ◌<◌, ◌≤◌, min, true, ◌&&◌, nat_lt, nat_le, List, [], ◌∷◌, length, map, slice_index_or, refl, sym, ap, ◌∙◌, arith}
use Rattle.std.specs.Prelude.{◌==◌}
use Rattle.std.specs.List.{list_all}
use Rattle.std.proofs.lemmas.Bool.{ltb-true, leb-true, le-leb, eqb-true, eq-eqb, and_parts, and_from}
use Rattle.rv_link_laws.specs.Moves.{dropped, has_room}
use Rattle.rv_relax.specs.Paddings.{move_of, is_next, are_in_order}
use Rattle.rv_shorten.specs.Pieces.{is_next_piece, are_pieces, pieces_dropped}
use Rattle.rv_relax.specs.Pieces.{Piece}
use Rattle.rv_object_laws.proofs.NopsLemmas.{length_even}
use Rattle.rv_relax.proofs.PiecedLemmas.{fits}

-- a padding that stands behind others
pub record IsNext (stop past : ℕ) (p : Piece) : Type 0 where
  pub from : stop ≤ p.place
  pub ends : p.place + p.full < 2 ^ 64
  pub even : p.left % 2 ≡ 0
  pub before : p.gone ≡ past

pub next : (stop past : ℕ) (p : Piece) → is_next stop past p ≡ true → IsNext stop past p
next stop past p h =
    let one = and_parts (nat_le stop p.place) (nat_lt (p.place + p.full) (2 ^ 64) && ((p.left % 2 == 0) && (p.gone == past))) h in
    let two = and_parts (nat_lt (p.place + p.full) (2 ^ 64)) ((p.left % 2 == 0) && (p.gone == past)) one.1 in
    let three = and_parts (p.left % 2 == 0) (p.gone == past) two.1 in
    record {
      from = leb-true stop p.place one.0;
      ends = ltb-true (p.place + p.full) (2 ^ 64) two.0;
      even = eqb-true (p.left % 2) 0 three.0;
      before = eqb-true p.gone past three.1;
    }

pub first : (stop past : ℕ) (p : Piece) (ps : List Piece) → are_in_order stop past (p ∷ ps) ≡ true → IsNext stop past p
first stop past p ps h = next stop past p (and_parts (is_next stop past p) (are_in_order (p.place + p.full) (past + (p.full - p.left)) ps) h).0

pub rest : (stop past : ℕ) (p : Piece) (ps : List Piece) → are_in_order stop past (p ∷ ps) ≡ true → are_in_order (p.place + p.full) (past + (p.full - p.left)) ps ≡ true
rest stop past p ps h = (and_parts (is_next stop past p) (are_in_order (p.place + p.full) (past + (p.full - p.left)) ps) h).1

pub ends_low : (stop past : ℕ) (ps : List Piece) (k : ℕ) (d : Piece) → are_in_order stop past ps ≡ true → k < length ps → (slice_index_or ps k d).place + (slice_index_or ps k d).full < 2 ^ 64
ends_low stop past [] k d h inside = absurd (omega arith)
ends_low stop past (p ∷ ps) zero d h inside = (first stop past p ps h).ends
ends_low stop past (p ∷ ps) (suc k) d h inside = ends_low (p.place + p.full) (past + (p.full - p.left)) ps k d (rest stop past p ps h) (omega arith)

-- ---- as pieces

pub as_pieces : (stop past : ℕ) (ps : List Piece) → are_in_order stop past ps ≡ true → are_pieces stop past ps ≡ true
as_pieces stop past [] h = refl
as_pieces stop past (p ∷ ps) h =
    let one = first stop past p ps h in
    and_from (is_next_piece stop past p) (are_pieces (p.place + p.full) (past + (p.full - p.left)) ps)
    (and_from (nat_le stop p.place) (p.gone == past) (le-leb stop p.place one.from) (eq-eqb p.gone past one.before))
    (as_pieces (p.place + p.full) (past + (p.full - p.left)) ps (rest stop past p ps h))

-- ---- as moves

pub moves_dropped : (stop past old : ℕ) (ps : List Piece) → are_in_order stop past ps ≡ true → pieces_dropped ps old ≡ dropped (map move_of ps) old
moves_dropped stop past old [] h = refl
moves_dropped stop past old (p ∷ ps) h =
    let later = moves_dropped (p.place + p.full) (past + (p.full - p.left)) old ps (rest stop past p ps h) in
    let long = length_even p.left (first stop past p ps h).even in
    ap (λ n. min (p.full - p.left) (old - (p.place + p.left)) + n) later
    ∙ sym (ap (λ n. min (p.full - n) (old - (p.place + n)) + dropped (map move_of ps) old) long)

pub moves_roomy : (stop past : ℕ) (ps : List Piece) → are_in_order stop past ps ≡ true → list_all fits ps ≡ list_all has_room (map move_of ps)
moves_roomy stop past [] h = refl
moves_roomy stop past (p ∷ ps) h =
    let later = moves_roomy (p.place + p.full) (past + (p.full - p.left)) ps (rest stop past p ps h) in
    let long = length_even p.left (first stop past p ps h).even in
    ap (λ b. nat_le p.left p.full && b) later ∙ sym (ap (λ n. nat_le n p.full && list_all has_room (map move_of ps)) long)
