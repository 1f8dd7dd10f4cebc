-- The least number of a set from one on, up to another.

use Rattle.std.proofs.Common.{◌≡◌, ◌≤◌, ◌<◌, ℕ, Bool, true, false, refl, arith}
use Rattle.std.specs.BTreeSet.{BTreeSet, contains}
use Rattle.std.specs.Ordering.{nat_cmp}
use Rattle.rv_inputs.specs.Least.{HasNone, IsLeast}

absent_by : (s : BTreeSet ℕ) (q k : ℕ) (t : Bool) → contains nat_cmp s q ≡ t → (contains nat_cmp s q ≡ true → k ≤ q) → q < k → contains nat_cmp s q ≡ false
absent_by s q k true at least less = absurd (omega (arith, least at, less))
absent_by s q k false at least less = at

pub none_below : (s : BTreeSet ℕ) (from k to : ℕ) → ((q : ℕ) → from ≤ q → contains nat_cmp s q ≡ true → k ≤ q) → to ≤ k → HasNone s from to
none_below s from k to least le = λ q low high. absent_by s q k (contains nat_cmp s q) refl (least q low) (omega (arith, high, le))

pub none_from : (s : BTreeSet ℕ) (from to : ℕ) → ((q : ℕ) → from ≤ q → contains nat_cmp s q ≡ false) → HasNone s from to
none_from s from to none = λ q low high. none q low

pub is_least : (s : BTreeSet ℕ) (from k to : ℕ) → from ≤ k → k < to → contains nat_cmp s k ≡ true → ((q : ℕ) → from ≤ q → contains nat_cmp s q ≡ true → k ≤ q) → IsLeast s from to k
is_least s from k to low high member least = record { low = low; high = high; member = member; least = none_below s from k k least (omega arith) }
