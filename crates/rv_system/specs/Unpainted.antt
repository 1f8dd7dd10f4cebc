-- A text without its colours.

use Rattle.std.specs.Prelude.{ℕ, zero, suc, ◌+◌, Bool, ◌&&◌, ◌||◌, nat_le, ◌==◌, if◌then◌else◌, List, [], ◌∷◌, ◌++◌, slice_index}
use Rattle.std.specs.List.{prefix_len}

-- the byte with which an escape begins
abbrev pub is_escape : ℕ → Bool
is_escape byte = byte == 0x1b

-- a digit or `;`
abbrev pub is_parameter : ℕ → Bool
is_parameter byte = (nat_le 0x30 byte && nat_le byte 0x39) || byte == 0x3b

-- how many bytes of `[`, parameters and `m` are at the front; 0 where it does not begin so
unfoldable pub ending_length : List ℕ → ℕ
ending_length [] = 0
ending_length (byte ∷ rest) =
    let count = prefix_len is_parameter rest in
    if byte == 0x5b && slice_index rest count == 0x6d then count + 2 else 0

-- whether the colour that begins with a byte before the text ends in it
unfoldable pub rest_of_colour : ℕ → List ℕ → ℕ
rest_of_colour byte rest = if is_escape byte then ending_length rest else 0

-- what is left of a text whose first bytes, so many, belong to a colour that was begun
unfoldable pub unpainted_from : List ℕ → ℕ → List ℕ
unpainted_from [] count = []
unpainted_from (byte ∷ rest) (suc count) = unpainted_from rest count
unpainted_from (byte ∷ rest) zero =
    let count = rest_of_colour byte rest in
    (if count == 0 then byte ∷ [] else []) ++ unpainted_from rest count

-- the text without its colours: each `ESC [`, digits and `;`, `m`
abbrev pub unpainted : List ℕ → List ℕ
unpainted text = unpainted_from text 0
