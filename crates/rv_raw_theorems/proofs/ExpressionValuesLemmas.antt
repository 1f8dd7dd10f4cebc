-- What the expressions of a raw listing are worth to its instructions: numbers, and the address of `.` with a distance.

use Rattle.std.proofs.Common.{◌≡◌, ℕ, suc, ℤ, pos, negsuc, ◌%◌, ◌^◌, ◌<◌, Bool, ◌∙◌, ap, arith, inr}
use Rattle.std.specs.Prelude.{◌+ℤ◌, ◌-ℤ◌, FitsSigned}
use Rattle.std.specs.Int.{w64, int_wrap}
use Rattle.std.proofs.lemmas.Int.{ints, fits_signed_from_abs, int_wrap_fits}
use Rattle.rv_isa_laws.specs.Arithmetic.{wrapped}
use Rattle.rv_expression_laws.specs.Expression.{Primary, Here}
use Rattle.rv_expression_laws.specs.Values.{Meaning, Open, Symbolic, value_of}
use Rattle.rv_pseudo_laws.specs.InstructionFaults.{Number, Address}
use Rattle.rv_raw_theorems.specs.Statements.{IsSmall, constant_expression, from_dot}
use Rattle.rv_raw_theorems.specs.Meaning.{KnowsNumbers}
use Rattle.rv_raw_theorems.proofs.PrintedValuesLemmas.{number_constant, distance_value}
use Rattle.rv_assemble_laws.specs.Coded.{constants}
use Rattle.rv_assemble_laws.specs.InstructionFaults.{worth, worths}
use Rattle.rv_assemble_laws.proofs.InstructionFaultsLemmas.{worth_is}

pub known : (m : Primary → Meaning) → KnowsNumbers (constants (value_of m))
known m z small = number_constant m z small

pub told : (m : Primary → Meaning) (l : Primary → Bool) (z : ℤ) → IsSmall z → worths (value_of m) l (constant_expression z) ≡ Number z
told m l z small = worth_is l (value_of m (constant_expression z)) z (number_constant m z small)

-- where code stands at no known place
pub led : (m : Primary → Meaning) → m Here ≡ Open → (l : Primary → Bool) (z : ℤ) → IsSmall z → (b : Bool) × (worths (value_of m) l (from_dot z) ≡ Address b)
led m here l z small = (l Here, ap (worth l) (distance_value m 0 0 z small (inr here)) ∙ ap (λ at. worth l (Symbolic Here at (wrapped z))) here)

-- ---- numbers with a sign

fits : (z : ℤ) → IsSmall z → FitsSigned w64 z
fits (pos n) small = fits_signed_from_abs w64 (pos n) (let e : n < 2 ^ 63 = omega (arith, small) in e)
fits (negsuc n) small = fits_signed_from_abs w64 (negsuc n) (let e : suc n < 2 ^ 63 = omega (arith, small) in e)

-- from a place to the same place and a distance
pub back_to_it : (place : ℕ) (z y : ℤ) → IsSmall z → place < 2 ^ 64 → y ≡ (pos (place % 2 ^ 64) +ℤ z) -ℤ pos place → int_wrap w64 y ≡ z
back_to_it place z y small low e = ap (int_wrap w64) (same z e) ∙ int_wrap_fits w64 z (fits z small)
  where
    same : (z : ℤ) → y ≡ (pos (place % 2 ^ 64) +ℤ z) -ℤ pos place → y ≡ z
    same (pos n) e = omega (arith, ints, low, e)
    same (negsuc n) e = omega (arith, ints, low, e)
