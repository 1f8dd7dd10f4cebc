-- Calls that are cut short.

use Rattle.std.specs.Prelude.{ℕ, ◌+◌, ◌-◌, ◌%◌, ◌^◌, Bool, true, ◌&&◌, ◌==◌, nat_le, nat_lt, List, [], ◌∷◌, if◌then◌else◌}
use Rattle.rv_shorten.specs.declared.piece.Piece.{Piece}
use Rattle.rv_link_laws.specs.Moves.{Move}
use Rattle.rv_link_laws.specs.Shortened.{short_call}

-- a call with the register that it links
abbrev pub Cut : Type 0
Cut = Piece ℕ

abbrev pub cut_left : Cut → ℕ
cut_left c = if c.left == 2 then 2 else 4

-- what is kept of a call
abbrev pub move_of : Cut → Move
move_of c = record { place = c.place; full = 8; text = short_call c.left c.detail }

-- behind calls that end at an offset, with so many bytes of them dropped, a call at an even offset
-- that links a register
abbrev pub is_next : (stop gone : ℕ) → Cut → Bool
is_next stop gone c =
    nat_le stop c.place
    && (nat_lt (c.place + 8) (2 ^ 64)
    && ((c.place % 2 == 0)
    && ((c.gone == gone) && (nat_lt c.detail 32 && ((c.full == 8) && (c.left == cut_left c))))))

abbrev pub are_in_order : (stop gone : ℕ) → List Cut → Bool
are_in_order stop gone [] = true
are_in_order stop gone (c ∷ cs) =
    is_next stop gone c && are_in_order (c.place + c.full) (gone + (c.full - c.left)) cs
