-- Numbers in hexadecimal, as packets have them (GDB manual, "Remote Protocol", "Overview").

use Rattle.std.specs.Prelude.{ℕ, ◌+◌, ◌*◌, List, [], ◌∷◌, Option, Some, None}
use Rattle.rv_gdb_packets.specs.Packets.{digit_value}

-- with one more digit, and the number of the rest; where there is none, the number ends
abbrev pub with_digit : ℕ → Option ℕ → (ℕ → ℕ) → ℕ
with_digit n None rest = n
with_digit n (Some d) rest = rest (n * 16 + d)

-- a number and the digits that stand first of all these bytes
abbrev pub number_on : ℕ → List ℕ → ℕ
number_on n [] = n
number_on n (b ∷ bs) = with_digit n (digit_value b) (λ m. number_on m bs)
