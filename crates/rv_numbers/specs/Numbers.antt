-- Numbers as people write them (this program's own).

use Rattle.std.specs.Prelude.{◌≡◌, ◌⊎◌, ℕ, ◌<◌, ◌^◌, List, ◌++◌, codes}
use Rattle.std.specs.Str.Parse.{IsNumeral, digits_value}

-- digits of a radix, one at least, that write this number below 2^64
abbrev pub IsRadixNumber : ℕ → List ℕ → ℕ → Type 0
IsRadixNumber radix digits n =
    IsNumeral radix digits × (digits_value radix digits ≡ n) × (n < 2 ^ 64)

-- a start of a text: decimal, or `0x` and hexadecimal digits
abbrev pub IsStart : List ℕ → ℕ → Type 0
IsStart text n =
    IsRadixNumber 10 text n ⊎ ((digits : List ℕ) × (text ≡ codes "0x" ++ digits)
    × IsRadixNumber 16 digits n)
