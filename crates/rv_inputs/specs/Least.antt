-- The first of the numbers of a set in stretches, one after another.

use Rattle.std.specs.Prelude.{◌≡◌, ℕ, ◌<◌, ◌≤◌, true, false, List, [], ◌∷◌, Option, Some, None, ◌⊎◌}
use Rattle.std.specs.BTreeSet.{BTreeSet, contains}
use Rattle.std.specs.Ordering.{nat_cmp}

-- the set has no number from one up to another
abbrev pub HasNone : BTreeSet ℕ → ℕ → ℕ → Type 0
HasNone s from to = (q : ℕ) → from ≤ q → q < to → contains nat_cmp s q ≡ false

-- this is its least number there
pub record IsLeast (s : BTreeSet ℕ) (from to k : ℕ) : Type 0 where
  pub low : from ≤ k
  pub high : k < to
  pub member : contains nat_cmp s k ≡ true
  pub least : HasNone s from k

-- the least number in the first stretch that has one
abbrev pub IsFirstIn : BTreeSet ℕ → List (ℕ × ℕ) → Option ℕ → Type 0
IsFirstIn s [] None = Unit {0}
IsFirstIn s [] (Some k) = ⊥
IsFirstIn s (x ∷ xs) None = HasNone s x.0 x.1 × IsFirstIn s xs None
IsFirstIn s (x ∷ xs) (Some k) =
    IsLeast s x.0 x.1 k ⊎ (HasNone s x.0 x.1 × IsFirstIn s xs (Some k))
