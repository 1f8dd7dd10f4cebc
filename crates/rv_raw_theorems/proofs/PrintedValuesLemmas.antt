-- The values of printed numbers and distances.

use Rattle.std.proofs.Common.{◌≡◌, ℕ, ℤ, pos, negsuc, ◌+◌, ◌-◌, ◌*◌, ◌%◌, ◌^◌, ◌<◌, ◌⊎◌, Some, refl, ◌∙◌, ap, arith, inl, inr}
use Rattle.std.specs.Prelude.{◌-ℤ◌, ◌+ℤ◌, unsigned_abs}
use Rattle.std.specs.Int.{w64, int_wrap, cast_signed}
use Rattle.std.proofs.lemmas.Bool.Decides.{nat_tests}
use Rattle.std.proofs.lemmas.Int.{ints, int_rem_euclid_is}
use Rattle.rv_expression_laws.specs.Expression.{Primary, Here}
use Rattle.rv_expression_laws.specs.Values.{Meaning, InSection, Open, Constant, Symbolic, add, value_of}
use Rattle.rv_isa_laws.specs.Arithmetic.{wrapped, signed}
use Rattle.rv_source_laws.specs.Lines.{constant_of, distance as distance_to}
use Rattle.rv_raw_theorems.specs.Statements.{IsSmall, constant_expression, from_dot}

number_value : (m : Primary → Meaning) (z : ℤ) → IsSmall z → value_of m (constant_expression z) ≡ Constant (wrapped z)
number_value m (pos n) small = ap Constant (omega (arith, small))
number_value m (negsuc n) small = ap Constant (omega (arith, small))

signed_wrapped : (z : ℤ) → IsSmall z → signed 64 (wrapped z) ≡ z
signed_wrapped (pos n) small = grind (arith, nat_tests, ints, small)
signed_wrapped (negsuc n) small = grind (arith, nat_tests, ints, small)

pub number_constant : (m : Primary → Meaning) (z : ℤ) → IsSmall z → constant_of (value_of m (constant_expression z)) ≡ Some z
number_constant m z small = ap constant_of (number_value m z small) ∙ ap (λ (k : ℤ). Some k) (signed_wrapped z small)

-- `.` and a distance
pub distance_value : (m : Primary → Meaning) (section offset : ℕ) (z : ℤ) → IsSmall z → (m Here ≡ InSection section offset) ⊎ (m Here ≡ Open) → value_of m (from_dot z) ≡ Symbolic Here (m Here) (wrapped z)
distance_value m section offset (pos n) small (inl e) = rw e (ap (Symbolic Here (InSection section offset)) (omega (arith, small)))
distance_value m section offset (pos n) small (inr e) = rw e (ap (Symbolic Here Open) (omega (arith, small)))
distance_value m section offset (negsuc n) small (inl e) = rw e (ap (Symbolic Here (InSection section offset)) (omega (arith, small)))
distance_value m section offset (negsuc n) small (inr e) = rw e (ap (Symbolic Here Open) (omega (arith, small)))

-- a number modulo 2 ^ 64, taken as signed
pub wraps_to : (z y : ℤ) (k m : ℕ) → IsSmall z → y +ℤ pos (k * 2 ^ 64) ≡ pos m → m % 2 ^ 64 ≡ wrapped z → int_wrap w64 y ≡ z
unfolding int_wrap
wraps_to z y k m small e same =
    let some : 0 < 2 ^ 64 = omega arith in
    ap (λ r. cast_signed w64 (unsigned_abs r)) (int_rem_euclid_is y (pos (2 ^ 64)) (2 ^ 64) k m some refl e) ∙ ap (cast_signed w64) same ∙ signed_wrapped z small

pub wrapped_low : (z : ℤ) → wrapped z % 2 ^ 64 ≡ wrapped z
wrapped_low (pos n) = omega arith
wrapped_low (negsuc n) = omega arith

-- the addend of `.` and a distance
pub addend_is : (z : ℤ) → IsSmall z → int_wrap w64 (pos (wrapped z)) ≡ z
addend_is (pos n) small = wraps_to (pos n) (pos (n % 2 ^ 64)) 0 (n % 2 ^ 64) small (omega (arith, ints)) (omega arith)
addend_is (negsuc n) small = wraps_to (negsuc n) (pos (2 ^ 64 - 1 - n % 2 ^ 64)) 0 (2 ^ 64 - 1 - n % 2 ^ 64) small (omega (arith, ints)) (omega arith)

-- from an address to what `.` and a distance give there
pub distance_is : (address : ℕ) (z : ℤ) → IsSmall z → address < 2 ^ 64 → distance_to address (add address (wrapped z)) ≡ z
distance_is address z small below = by (wrapped z) refl
  where
    by : (w : ℕ) → w ≡ wrapped z → distance_to address (add address w) ≡ z
    by w is =
        let same : ((address + w) % 2 ^ 64 + 2 ^ 64 - address) % 2 ^ 64 ≡ w % 2 ^ 64 = omega (arith, below) in
        let low : w % 2 ^ 64 ≡ wrapped z = rw is (wrapped_low z) in
        wraps_to z (pos ((address + w) % 2 ^ 64) -ℤ pos address) 1 ((address + w) % 2 ^ 64 + 2 ^ 64 - address) small (omega (arith, ints, below)) (same ∙ low)
