-- The digits of a number of any length, mixed into 64 bits (the hash FNV-1a).

use Rattle.std.specs.Prelude.{ℕ, zero, suc, ◌*◌, ◌/◌, ◌%◌, ◌^◌, ◌<◌, ◌==◌, List, [], ◌∷◌, bit_xor, if◌then◌else◌}
use Rattle.rv_expression_laws.specs.Bytes.{digit}

abbrev pub basis : ℕ
basis = 0xcbf2_9ce4_8422_2325

abbrev pub prime : ℕ
prime = 0x100_0000_01b3

-- a digit more
abbrev pub mix_digit : ℕ → ℕ → ℕ
mix_digit number d = bit_xor number d * prime % 2 ^ 64

-- the decimal digits of a number, at most `most` of them, from the last on
abbrev pub mix_within : ℕ → ℕ → ℕ → ℕ
mix_within zero n number = number
mix_within (suc most) n number =
    if n == 0 then number else mix_within most (n / 10) (mix_digit number (n % 10))

-- all of its digits: a number has no more of them than its value
unfoldable pub mix : ℕ → ℕ → ℕ
mix n number = mix_within n n number

-- the first digit, if there is one, is no zero
abbrev pub HasNoZeroInFront : List ℕ → Type 0
HasNoZeroInFront [] = Unit {0}
HasNoZeroInFront (d ∷ ds) = 0 < digit d
