-- Plain arithmetic stays within 64 bits.

use Rattle.std.proofs.Common.{◌≡◌, ℕ, ◌-◌, ◌/◌, ◌^◌, ◌<◌, ◌≤◌, ◌==◌, nat_lt, Bool, true, false, if◌then◌else◌, Option, Some, None, option_map, IfSome, arith}
use Rattle.std.proofs.Common.{zero, suc, ltb, refl}
use Rattle.std.specs.Prelude.{ℤ, pos, negsuc, int_rem, int_div}
use Rattle.std.specs.Int.{w64, cast_signed, cast_unsigned, int_wrapping_div}
use Rattle.std.specs.Int.Signed.{mag, mag_rem}
use mir.Val.{sel}
use Rattle.std.proofs.Math.IntN.{neg_ℤ}
use Rattle.std.proofs.lemmas.Bool.{ltb-true, ltb-false}
use Rattle.std.proofs.Math.Nat.{div-le_self}
use Rattle.std.proofs.lemmas.Nat.{or_lt, xor_lt, and_le_l}
use Rattle.rv_expression_laws.specs.declared.operator.UnaryOperator.{UnaryOperator}
use Rattle.rv_expression_laws.specs.declared.operator.UnaryOperator.TheVariants.{Negate, Complement, Keep}
use Rattle.rv_expression_laws.specs.declared.operator.BinaryOperator.{BinaryOperator}
use Rattle.rv_expression_laws.specs.declared.operator.BinaryOperator.TheVariants.{Multiply, Divide, Remainder, ShiftLeft, ShiftRight, Or, And, ExclusiveOr, Add, Subtract}
use Rattle.rv_expression_laws.specs.Expression.{Primary, Literal, Symbol, Here, Reference, Tree, Leaf, Unary, Paren, Binary}
use Rattle.rv_value_theorems.specs.Plain.{of_one, of_two, of_both, plain}
use Rattle.rv_value_theorems.specs.Agreement.{AreSmall}

abbrev IsSmall : Option ℕ → Type 0
IsSmall n = IfSome n (λ x. x < 2 ^ 64)

else_small : (b : Bool) (n : ℕ) → n < 2 ^ 64 → IsSmall (if b then None else Some n)
else_small true n small = tt
else_small false n small = small

then_small : (b : Bool) (n : ℕ) → n < 2 ^ 64 → IsSmall (if b then Some n else None)
then_small true n small = small
then_small false n small = tt

quotient_small : (a d : ℕ) → a < 2 ^ 64 → a / d < 2 ^ 64
quotient_small a d small = omega (arith, div-le_self a d)

-- ---- signed numbers

to_small : (n : ℕ) → n < 2 ^ 64 → mag (cast_signed w64 n) < 2 ^ 63
to_small n small = go (ltb n (2 ^ 63)) refl
  where
    go : (b : Bool) → ltb n (2 ^ 63) ≡ b → mag (sel b (pos n) (negsuc (2 ^ 64 - suc n))) < 2 ^ 63
    go true e = ltb-true n (2 ^ 63) e
    go false e = let above : 2 ^ 63 ≤ n = ltb-false n (2 ^ 63) e in omega arith

of_small : (z : ℤ) → mag z < 2 ^ 64 → cast_unsigned w64 z < 2 ^ 64
of_small (pos n) small = small
of_small (negsuc n) small = omega arith

mag_neg : (n : ℕ) → n < 2 ^ 64 → mag (neg_ℤ (pos n)) < 2 ^ 64
mag_neg zero small = small
mag_neg (suc n) small = omega (arith, small)

mag_quotient : (x y : ℤ) → mag x < 2 ^ 63 → mag (int_div x y) < 2 ^ 64
mag_quotient (pos a) (pos b) small = omega (arith, div-le_self a b, small)
mag_quotient (pos a) (negsuc b) small = mag_neg (a / suc b) (omega (arith, div-le_self a (suc b), small))
mag_quotient (negsuc a) (pos b) small = mag_neg (suc a / b) (omega (arith, div-le_self (suc a) b, small))
mag_quotient (negsuc a) (negsuc b) small = omega (arith, div-le_self (suc a) (suc b), small)

signed_quotient : (a b : ℕ) → a < 2 ^ 64 → cast_unsigned w64 (int_wrapping_div w64 (cast_signed w64 a) (cast_signed w64 b)) < 2 ^ 64
signed_quotient a b small =
    let q : ℤ = int_div (cast_signed w64 a) (cast_signed w64 b) in
    let fits : cast_unsigned w64 q < 2 ^ 64 = of_small q (mag_quotient (cast_signed w64 a) (cast_signed w64 b) (to_small a small)) in
    let within : mag (cast_signed w64 (cast_unsigned w64 q)) < 2 ^ 63 = to_small (cast_unsigned w64 q) fits in
    of_small (cast_signed w64 (cast_unsigned w64 q)) (omega (arith, within))

signed_remainder : (a b : ℕ) → a < 2 ^ 64 → cast_unsigned w64 (int_rem (cast_signed w64 a) (cast_signed w64 b)) < 2 ^ 64
signed_remainder a b small =
    let within : mag (cast_signed w64 a) < 2 ^ 63 = to_small a small in
    of_small (int_rem (cast_signed w64 a) (cast_signed w64 b)) (omega (arith, mag_rem (cast_signed w64 a) (cast_signed w64 b), within))

-- ---- operators

two_small : (o : BinaryOperator) (a b : ℕ) → a < 2 ^ 64 → b < 2 ^ 64 → IsSmall (of_two o a b)
two_small Multiply a b sa sb = omega arith
two_small Divide a b sa sb = else_small (b == 0) _ (signed_quotient a b sa)
two_small Remainder a b sa sb = else_small (b == 0) _ (signed_remainder a b sa)
two_small ShiftLeft a b sa sb = then_small (nat_lt b 64) _ (omega arith)
two_small ShiftRight a b sa sb = then_small (nat_lt b 64) _ (quotient_small a (2 ^ b) sa)
two_small Or a b sa sb = or_lt 64 a b sa sb
two_small And a b sa sb = omega (arith, and_le_l a b)
two_small ExclusiveOr a b sa sb = xor_lt 64 a b sa sb
two_small Add a b sa sb = omega arith
two_small Subtract a b sa sb = omega arith

both_small : (o : BinaryOperator) (n k : Option ℕ) → IsSmall n → IsSmall k → IsSmall (of_both o n k)
both_small o None k ns ks = tt
both_small o (Some x) None ns ks = tt
both_small o (Some x) (Some y) ns ks = two_small o x y ns ks

one_small : (o : UnaryOperator) (n : Option ℕ) → IsSmall n → IsSmall (option_map (of_one o) n)
one_small o None ns = tt
one_small Keep (Some x) ns = ns
one_small Negate (Some x) ns = omega arith
one_small Complement (Some x) ns = omega arith

all_small : (a : Primary → Option ℕ) (e : Tree) → AreSmall a e → IsSmall (plain a e)
all_small a (Leaf (Literal number)) small = small
all_small a (Leaf (Symbol name)) small = small
all_small a (Leaf Here) small = small
all_small a (Leaf (Reference digits forward)) small = small
all_small a (Unary o x) small = one_small o (plain a x) (all_small a x small)
all_small a (Paren x) small = all_small a x small
all_small a (Binary o x y) small = both_small o (plain a x) (plain a y) (all_small a x small.0) (all_small a y small.1)

found_small : (n : Option ℕ) (x : ℕ) → n ≡ Some x → IsSmall n → x < 2 ^ 64
found_small None x is small = absurd (cc)
found_small (Some y) x is small = let same : y ≡ x = cc in omega (arith, same, small)

pub plain_fits : (a : Primary → Option ℕ) (e : Tree) (x : ℕ) → AreSmall a e → plain a e ≡ Some x → x < 2 ^ 64
plain_fits a e x small is = found_small (plain a e) x is (all_small a e small)
