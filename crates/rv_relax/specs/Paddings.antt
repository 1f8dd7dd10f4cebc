-- Paddings in the order of their places.

use Rattle.std.specs.Prelude.{ℕ, zero, suc, ◌+◌, ◌-◌, ◌%◌, ◌^◌, Bool, true, ◌&&◌, ◌==◌, nat_le, nat_lt, List, [], ◌∷◌, slice_index}
use Rattle.rv_relax.specs.Pieces.{Piece}
use Rattle.rv_object_laws.specs.Padding.{no_operations, operations_in}
use Rattle.rv_link_laws.specs.Moves.{Move}

-- what is kept of a padding
abbrev pub move_of : Piece → Move
move_of p = record { place = p.place; full = p.full; text = no_operations p.left }

-- behind paddings that end at an offset, with so many bytes of them dropped, a padding that keeps
-- whole instructions
abbrev pub is_next : ℕ → ℕ → Piece → Bool
is_next stop gone p =
    nat_le stop p.place
    && (nat_lt (p.place + p.full) (2 ^ 64) && ((p.left % 2 == 0) && (p.gone == gone)))

abbrev pub are_in_order : ℕ → ℕ → List Piece → Bool
are_in_order stop gone [] = true
are_in_order stop gone (p ∷ ps) =
    is_next stop gone p && are_in_order (p.place + p.full) (gone + (p.full - p.left)) ps

-- the instructions that a padding loses
abbrev pub loses : Piece → ℕ
loses p = operations_in p.full - operations_in p.left

-- behind paddings that lose so many instructions, of each what it and those before it lose
abbrev pub lost_sums : ℕ → List Piece → List ℕ
lost_sums lost [] = []
lost_sums lost (p ∷ ps) = (lost + loses p) ∷ lost_sums (lost + loses p) ps

-- of such sums, that of so many from the first on
abbrev pub sum_of_first : ℕ → List ℕ → ℕ
sum_of_first zero sums = 0
sum_of_first (suc k) sums = slice_index sums k
