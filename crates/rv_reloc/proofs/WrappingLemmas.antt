-- Sums and differences modulo 2 ^ 64, of unsigned numbers taken as signed.
use Rattle.std.proofs.Common.{rules, ◌≡◌, ℕ, ◌%◌, ◌^◌, ◌<◌, ℤ, pos, ◌+ℤ◌, ◌-ℤ◌, neg_ℤ, to_z, w64, sym, ap, ◌∙◌, arith}
use Rattle.std.specs.Int.{int_wrap, int_wrapping_sub}
use Rattle.std.proofs.lemmas.Int.{wrapping_sub_is, int_wrap_fits, int_wrap-add_left, int_wrap-sub_right, SFits-int_wrap}

pos_wrapped : (n : ℕ) → n < 2 ^ 64 → to_z w64 n ≡ int_wrap w64 (pos n)
unfolding int_wrap
pos_wrapped n h = let e : n ≡ n % 2 ^ 64 = omega arith in ap (to_z w64) e

-- taken as signed, the number is the same modulo 2 ^ 64
pub signed_same : (n : ℕ) → n < 2 ^ 64 → int_wrap w64 (to_z w64 n) ≡ int_wrap w64 (pos n)
signed_same n h = int_wrap_fits w64 (to_z w64 n) (search rules) ∙ pos_wrapped n h

pub added : (n : ℕ) (z : ℤ) → n < 2 ^ 64 → int_wrap w64 (to_z w64 n +ℤ z) ≡ int_wrap w64 (pos n +ℤ z)
added n z h = sym (int_wrap-add_left w64 (to_z w64 n) z) ∙ ap (λ x. int_wrap w64 (x +ℤ z)) (signed_same n h) ∙ int_wrap-add_left w64 (pos n) z

pub taken : (z : ℤ) (n : ℕ) → n < 2 ^ 64 → int_wrap w64 (int_wrap w64 z -ℤ to_z w64 n) ≡ int_wrap w64 (z -ℤ pos n)
taken z n h =
    sym (int_wrap-sub_right w64 (int_wrap w64 z) (to_z w64 n))
    ∙ ap (λ x. int_wrap w64 (int_wrap w64 z -ℤ x)) (signed_same n h)
    ∙ int_wrap-sub_right w64 (int_wrap w64 z) (pos n)
    ∙ int_wrap-add_left w64 z (neg_ℤ (pos n))

-- the machine's difference of such numbers
pub subtracted : (x y : ℤ) (z : ℤ) (n : ℕ) → n < 2 ^ 64 → x ≡ int_wrap w64 z → y ≡ to_z w64 n → int_wrapping_sub w64 x y ≡ int_wrap w64 (z -ℤ pos n)
subtracted x y z n h e f =
    ap (λ a. int_wrapping_sub w64 a y) e
    ∙ ap (λ b. int_wrapping_sub w64 (int_wrap w64 z) b) f
    ∙ wrapping_sub_is w64 (int_wrap w64 z) (to_z w64 n) (SFits-int_wrap w64 z) (search rules)
    ∙ taken z n h
