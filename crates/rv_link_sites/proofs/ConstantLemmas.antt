-- What a call adds to what its target moves with.

use Rattle.std.proofs.Common.{◌≡◌, ℕ, ◌+◌, ◌%◌, ◌^◌, ◌<◌, ℤ, pos, ◌+ℤ◌, FitsSigned, sym, ap, ◌∙◌, arith}
use Rattle.std.specs.Int.{w64, int_wrap, cast_signed, cast_unsigned}
use Rattle.std.proofs.lemmas.Int.{ints, int_wrap-add_right, wrapping_add_onto}

-- a word as a signed one
signed_word : (n : ℕ) → n < 2 ^ 64 → int_wrap w64 (pos n) ≡ cast_signed w64 n
unfolding int_wrap
signed_word n low = ap (cast_signed w64) (let e : n % 2 ^ 64 ≡ n = omega (arith, low) in e)

-- a word is added to a signed one in 64 bits
pub added_word : (a : ℤ) (n : ℕ) → FitsSigned w64 a → n < 2 ^ 64 → cast_signed w64 ((cast_unsigned w64 a + n) % 2 ^ 64) ≡ int_wrap w64 (a +ℤ pos n)
added_word a n fits low =
    ap (λ s. cast_signed w64 (s % 2 ^ 64)) (let e : cast_unsigned w64 a + n ≡ n + cast_unsigned w64 a = omega arith in e)
    ∙ wrapping_add_onto w64 n a low fits
    ∙ ap (int_wrap w64) (let e : cast_signed w64 n +ℤ a ≡ a +ℤ cast_signed w64 n = omega (arith, ints) in e)
    ∙ ap (λ b. int_wrap w64 (a +ℤ b)) (sym (signed_word n low))
    ∙ int_wrap-add_right w64 a (pos n)
