-- Alignments in the order of their places.

use Rattle.std.specs.Prelude.{ℕ, ◌+◌, ◌^◌, Bool, true, ◌&&◌, nat_le, nat_lt, List, [], ◌∷◌}
use Rattle.rv_object_laws.specs.Object.{Relocation}
use Rattle.rv_link_laws.specs.Moves.{full_padding}

-- behind paddings that end at an offset, alignments whose paddings lie one behind the other, in a
-- section of less than 2 ^ 64 bytes
abbrev pub is_next_alignment : ℕ → Relocation → Bool
is_next_alignment stop r =
    nat_le stop r.place
    && (nat_le (full_padding r) 4094 && nat_lt (r.place + full_padding r) (2 ^ 64))

abbrev pub are_alignments : ℕ → List Relocation → Bool
are_alignments stop [] = true
are_alignments stop (r ∷ rs) =
    is_next_alignment stop r && are_alignments (r.place + full_padding r) rs
