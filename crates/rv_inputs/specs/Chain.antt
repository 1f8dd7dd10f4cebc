-- The offers of each name, as a chain: from the last one to the one before, up to the first.

use Rattle.std.specs.Prelude.{◌≡◌, ℕ, ◌<◌, ◌≤◌, List, length, take, Option, Some, None}
use Rattle.std.specs.Borrow.{Bor}
use Rattle.std.specs.BTreeMap.{BTreeMap, get_by}
use Rattle.std.specs.Cmp.Lexicographic.{slice_cmp}
use Rattle.std.specs.List.{slice_get}
use Rattle.std.specs.Ordering.{nat_cmp}

-- a link leads to a lower number
abbrev pub Falls : List (Option ℕ) → Type 0
Falls links = (i b : ℕ) → slice_get links i ≡ Some (Some b) → b < i

-- where a name stands last
abbrev pub IsLastOf : List (Option (List ℕ)) → List ℕ → Option ℕ → Type 0
IsLastOf names name None = (j : ℕ) → slice_get names j ≡ Some (Some name) → ⊥
IsLastOf names name (Some i) =
    (slice_get names i ≡ Some (Some name))
    × ((j : ℕ) → slice_get names j ≡ Some (Some name) → j ≤ i)

-- the table has the last place of each name, and the links those before
pub record AreChainsBy (last : BTreeMap (Bor (List ℕ)) ℕ) (links : List (Option ℕ))
    (names : List (Option (List ℕ))) : Type 0 where
  pub long : length links ≡ length names
  pub ends : (name : List ℕ) → IsLastOf names name
      (get_by (λ (k : Bor (List ℕ)). slice_cmp nat_cmp name k.now) last)
  pub leads : (i : ℕ) (name : List ℕ) (link : Option ℕ) → slice_get names i ≡ Some (Some name)
      → slice_get links i ≡ Some link → IsLastOf (take i names) name link
