-- The parts of a text that lose bytes, in the order in which they stand,
-- and what is dropped of them before an offset.

use Rattle.std.specs.Prelude.{ℕ, ◌+◌, ◌-◌, min, Bool, true, ◌&&◌, ◌==◌, nat_le, List, [], ◌∷◌}
use Rattle.rv_shorten.specs.declared.piece.Piece.{Piece}

-- none begins before the end of the one before, and each has the sum of what is dropped before it
abbrev pub is_next_piece : {T : Type 0} → (stop gone : ℕ) → Piece T → Bool
is_next_piece stop gone p = nat_le stop p.place && (p.gone == gone)

abbrev pub are_pieces : {T : Type 0} → (stop gone : ℕ) → List (Piece T) → Bool
are_pieces stop gone [] = true
are_pieces stop gone (p ∷ ps) =
    is_next_piece stop gone p && are_pieces (p.place + p.full) (gone + (p.full - p.left)) ps

-- the bytes that they drop before an offset
abbrev pub pieces_dropped : {T : Type 0} → List (Piece T) → ℕ → ℕ
pieces_dropped [] old = 0
pieces_dropped (p ∷ ps) old =
    min (p.full - p.left) (old - (p.place + p.left)) + pieces_dropped ps old
