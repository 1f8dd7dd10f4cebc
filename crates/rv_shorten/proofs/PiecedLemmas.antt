-- Pieces in order: which begin before an offset, and what of them is dropped there.

use Rattle.std.proofs.Common.{◌≡◌, ℕ, zero, suc, ◌+◌, ◌-◌, ◌<◌, ◌≤◌, min, true, nat_lt, nat_le, List, [], ◌∷◌, length, slice_index_or, refl, arith}
use Rattle.std.specs.Prelude.{◌==◌}
use Rattle.std.specs.List.Sorted.{IsPartitionedBy}
use Rattle.std.proofs.lemmas.Bool.{ltb-true, leb-true, eqb-true, lt-ltb, and_parts}
use Rattle.rv_shorten.specs.declared.piece.Piece.{Piece}
use Rattle.rv_shorten.specs.Pieces.{is_next_piece, are_pieces, pieces_dropped}

-- a piece that stands behind others
pub first : {T : Type 0} → (stop past : ℕ) (p : Piece T) (ps : List (Piece T)) → are_pieces stop past (p ∷ ps) ≡ true → (stop ≤ p.place) × (p.gone ≡ past)
first stop past p ps h =
    let one = and_parts (nat_le stop p.place) (p.gone == past) (and_parts (is_next_piece stop past p) (are_pieces (p.place + p.full) (past + (p.full - p.left)) ps) h).0 in
    (leb-true stop p.place one.0, eqb-true p.gone past one.1)

pub rest : {T : Type 0} → (stop past : ℕ) (p : Piece T) (ps : List (Piece T)) → are_pieces stop past (p ∷ ps) ≡ true → are_pieces (p.place + p.full) (past + (p.full - p.left)) ps ≡ true
rest stop past p ps h = (and_parts (is_next_piece stop past p) (are_pieces (p.place + p.full) (past + (p.full - p.left)) ps) h).1

pub after : {T : Type 0} → (stop past : ℕ) (ps : List (Piece T)) (k : ℕ) (d : Piece T) → are_pieces stop past ps ≡ true → k < length ps → stop ≤ (slice_index_or ps k d).place
after stop past [] k d h inside = absurd (omega arith)
after stop past (p ∷ ps) zero d h inside = (first stop past p ps h).0
after stop past (p ∷ ps) (suc k) d h inside =
    let one = first stop past p ps h in
    let later = after (p.place + p.full) (past + (p.full - p.left)) ps k d (rest stop past p ps h) (omega arith) in
    omega (arith, one.0)

-- no more is dropped before a piece than stands there
pub gone_low : {T : Type 0} → (stop past : ℕ) (ps : List (Piece T)) (k : ℕ) (d : Piece T) → are_pieces stop past ps ≡ true → past ≤ stop → k < length ps → (slice_index_or ps k d).gone ≤ (slice_index_or ps k d).place
gone_low stop past [] k d h low inside = absurd (omega arith)
gone_low stop past (p ∷ ps) zero d h low inside = let one = first stop past p ps h in omega (arith, one.0, one.1)
gone_low stop past (p ∷ ps) (suc k) d h low inside =
    let one = first stop past p ps h in
    gone_low (p.place + p.full) (past + (p.full - p.left)) ps k d (rest stop past p ps h) (omega (arith, one.0)) (omega arith)

-- ---- a search by halves

pub rising : {T : Type 0} → (stop past : ℕ) (ps : List (Piece T)) → are_pieces stop past ps ≡ true → (i j : ℕ) (d : Piece T) → i ≤ j → j < length ps → (slice_index_or ps i d).place ≤ (slice_index_or ps j d).place
rising stop past [] h i j d le inside = absurd (omega arith)
rising stop past (p ∷ ps) h zero zero d le inside = omega arith
rising stop past (p ∷ ps) h zero (suc j) d le inside =
    let later = after (p.place + p.full) (past + (p.full - p.left)) ps j d (rest stop past p ps h) (omega arith) in
    omega arith
rising stop past (p ∷ ps) h (suc i) zero d le inside = absurd (omega arith)
rising stop past (p ∷ ps) h (suc i) (suc j) d le inside = rising (p.place + p.full) (past + (p.full - p.left)) ps (rest stop past p ps h) i j d (omega arith) (omega arith)

pub partitioned : {T : Type 0} → (old : ℕ) (ps : List (Piece T)) → are_pieces 0 0 ps ≡ true → IsPartitionedBy (λ (p : Piece T). nat_lt p.place old) ps
partitioned old ps h = λ i j d le inside test.
    let low : (slice_index_or ps i d).place ≤ (slice_index_or ps j d).place = rising 0 0 ps h i j d le inside in
    let high : (slice_index_or ps j d).place < old = ltb-true (slice_index_or ps j d).place old test in
    lt-ltb (slice_index_or ps i d).place old (omega arith)

-- ---- what is dropped before an offset

nothing_yet : {T : Type 0} → (stop past old : ℕ) (ps : List (Piece T)) → are_pieces stop past ps ≡ true → old ≤ stop → pieces_dropped ps old ≡ 0
nothing_yet stop past old [] h low = refl
nothing_yet stop past old (p ∷ ps) h low =
    let one = first stop past p ps h in
    let later = nothing_yet (p.place + p.full) (past + (p.full - p.left)) old ps (rest stop past p ps h) (omega (arith, one.0)) in
    omega (arith, one.0)

pub none_dropped : {T : Type 0} → (stop past old : ℕ) (ps : List (Piece T)) → are_pieces stop past ps ≡ true → ((d : Piece T) → 0 < length ps → old ≤ (slice_index_or ps 0 d).place) → pieces_dropped ps old ≡ 0
none_dropped stop past old [] h low = refl
none_dropped stop past old (p ∷ ps) h low =
    let here : old ≤ p.place = low p (omega arith) in
    let later = nothing_yet (p.place + p.full) (past + (p.full - p.left)) old ps (rest stop past p ps h) (omega arith) in
    omega arith

pub dropped_at : {T : Type 0} → (stop past old : ℕ) (ps : List (Piece T)) (k : ℕ) (d : Piece T) → are_pieces stop past ps ≡ true → k < length ps → (slice_index_or ps k d).place < old
    → ((e : Piece T) → suc k < length ps → old ≤ (slice_index_or ps (suc k) e).place)
    → past + pieces_dropped ps old ≡ (slice_index_or ps k d).gone + min ((slice_index_or ps k d).full - (slice_index_or ps k d).left) (old - ((slice_index_or ps k d).place + (slice_index_or ps k d).left))
dropped_at stop past old [] k d h inside high low = absurd (omega arith)
dropped_at stop past old (p ∷ ps) zero d h inside high low =
    let one = first stop past p ps h in
    let none = none_dropped (p.place + p.full) (past + (p.full - p.left)) old ps (rest stop past p ps h) (λ e some. low e (omega arith)) in
    omega (arith, one.1)
dropped_at stop past old (p ∷ ps) (suc k) d h inside high low =
    let one = first stop past p ps h in
    let later = dropped_at (p.place + p.full) (past + (p.full - p.left)) old ps k d (rest stop past p ps h) (omega arith) high (λ e some. low e (omega arith)) in
    let behind = after (p.place + p.full) (past + (p.full - p.left)) ps k d (rest stop past p ps h) (omega arith) in
    omega arith
