-- Bytes and values as digits (GDB manual, "Remote Protocol", "Packets": `g`, `m`).

use Rattle.std.specs.Prelude.{ℕ, ◌/◌, ◌%◌, false, List, [], ◌∷◌, flat_map}
use Rattle.std.specs.Fmt.{digit_glyph}
use Rattle.std.specs.Int.{to_le_bytes, w64}

-- two digits, the higher first
abbrev pub byte_digits : ℕ → List ℕ
byte_digits b = digit_glyph false (b / 16) ∷ digit_glyph false (b % 16) ∷ []

abbrev pub digits : List ℕ → List ℕ
digits bytes = flat_map byte_digits bytes

-- a value of 64 bits as the target has it, the lowest byte first
abbrev pub value_digits : ℕ → List ℕ
value_digits value = digits (to_le_bytes w64 value)
