-- How far `.` and a distance lead.

use Rattle.std.proofs.Common.{◌≡◌, ℕ, ◌+◌, ◌-◌, ◌*◌, ◌/◌, ◌%◌, ◌^◌, ℤ, pos, refl, ◌∙◌, arith}
use Rattle.std.specs.Prelude.{◌-ℤ◌}
use Rattle.std.proofs.lemmas.Int.{ints}
use Rattle.rv_expression_laws.specs.Values.{add}
use Rattle.rv_isa_laws.specs.Arithmetic.{wrapped}
use Rattle.rv_source_laws.specs.Lines.{distance as distance_to}
use Rattle.rv_raw_theorems.specs.Statements.{IsSmall}
use Rattle.rv_raw_theorems.proofs.PrintedValuesLemmas.{wraps_to, wrapped_low}

-- from any address to what they give there
pub distance_is : (address : ℕ) (z : ℤ) → IsSmall z → distance_to address (add (add address 0) (wrapped z)) ≡ z
distance_is address z small = by (wrapped z) refl
  where
    by : (w : ℕ) → w ≡ wrapped z → distance_to address (add (add address 0) w) ≡ z
    by w is =
        let k = address / 2 ^ 64 + 1 in
        let m = ((address + 0) % 2 ^ 64 + w) % 2 ^ 64 + k * 2 ^ 64 - address in
        let same : m % 2 ^ 64 ≡ w % 2 ^ 64 = omega arith in
        let low : w % 2 ^ 64 ≡ wrapped z = rw is (wrapped_low z) in
        wraps_to z (pos (((address + 0) % 2 ^ 64 + w) % 2 ^ 64) -ℤ pos address) k m small (omega (arith, ints)) (same ∙ low)
