-- Alignments are no greater than 4096, and data no longer than a section can be.

use Rattle.std.proofs.Common.{◌≡◌, ℕ, ◌^◌, ◌≤◌, Bool, true, false, Some, None, refl, arith}
use Rattle.std.specs.Prelude.{if◌then◌else◌, nat_lt, nat_le, ◌&&◌}
use Rattle.std.proofs.lemmas.Bool.{ltb-true, leb-true, and_parts}
use Rattle.rv_list_laws.proofs.NumbersLemmas.{low_power}
use Rattle.rv_expression_laws.specs.Values.{Value, Constant, Symbolic, Difference, Faulty}
use Rattle.rv_unit_laws.specs.Tables.{is_power, greatest_alignment, or_none, power_alignment, byte_alignment}

pub low_if : (b : Bool) (n : ℕ) → (b ≡ true → n ≤ 4096) → or_none (if b then Some n else None) ≤ 4096
low_if true n h = h refl
low_if false n h = omega arith

pub power_low : (v : Value) → or_none (power_alignment v) ≤ 4096
power_low (Constant k) = low_if (nat_lt k 13) (2 ^ k) (λ e. low_power k (ltb-true k 13 e))
power_low (Symbolic p at k) = omega arith
power_low (Difference p q k) = omega arith
power_low (Faulty c) = omega arith

pub bytes_low : (v : Value) → or_none (byte_alignment v) ≤ 4096
bytes_low (Constant n) = low_if (is_power n && nat_le n greatest_alignment) n (λ e. leb-true n greatest_alignment (and_parts (is_power n) (nat_le n greatest_alignment) e).1)
bytes_low (Symbolic p at k) = omega arith
bytes_low (Difference p q k) = omega arith
bytes_low (Faulty c) = omega arith
