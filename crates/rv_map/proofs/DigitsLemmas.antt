-- The digits of a base, byte by byte.

use Rattle.std.proofs.Common.{◌≡◌, ℕ, ◌-◌, ◌<◌, ◌≤◌, ◌⊎◌, inl, inr, false, ltb, sym, arith}
use Rattle.std.proofs.lemmas.Bool.Decides.{nat_tests}
use Rattle.std.specs.Char.{digit_value}
use Rattle.std.specs.Fmt.{digit_glyph}
use Rattle.rv_map.specs.Numeral.{IsBase, is_digit}

pub decimal_value : (byte : ℕ) → 48 ≤ byte → byte ≤ 57 → digit_value byte ≡ byte - 48
decimal_value byte low high = grind (arith, nat_tests)

pub letter_value : (byte : ℕ) → 97 ≤ byte → byte ≤ 122 → digit_value byte ≡ byte - 87
letter_value byte low high = grind (arith, nat_tests)

pub tests_value : (base byte value : ℕ) → digit_value byte ≡ value → digit_glyph false value ≡ byte → is_digit base byte ≡ ltb value base
unfolding is_digit
tests_value base byte value v g = grind (arith, nat_tests)

pub tests_decimal : (base byte : ℕ) → 48 ≤ byte → byte ≤ 57 → is_digit base byte ≡ ltb (byte - 48) base
tests_decimal base byte low high = tests_value base byte (byte - 48) (decimal_value byte low high) (grind (arith, nat_tests))

pub tests_letter : (base byte : ℕ) → 97 ≤ byte → byte ≤ 122 → is_digit base byte ≡ ltb (byte - 87) base
tests_letter base byte low high = tests_value base byte (byte - 87) (letter_value byte low high) (grind (arith, nat_tests))

-- a digit below 16 by its byte
pub digit_test : (base byte digit : ℕ) → (48 ≤ byte) × (byte ≤ 57) × (digit ≡ byte - 48) ⊎ (97 ≤ byte) × (byte ≤ 102) × (digit ≡ byte - 87) → (is_digit base byte ≡ ltb digit base) × (digit ≡ digit_value byte)
digit_test base byte digit (inl h) = rw h.2 (tests_decimal base byte h.0 h.1, sym (decimal_value byte h.0 h.1))
digit_test base byte digit (inr h) = let high = h.1 in rw h.2 (tests_letter base byte h.0 (omega arith), sym (letter_value byte h.0 (omega arith)))

pub no_digit : (base byte : ℕ) → IsBase base → (byte < 48) ⊎ (57 < byte) × (byte < 97) ⊎ (102 < byte) → is_digit base byte ≡ false
unfolding is_digit
no_digit base byte b h = grind (arith, nat_tests)
