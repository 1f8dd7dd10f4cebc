-- The sums of numbers by 64, of these sums again, and once more: what lies before a place is read
-- in a few of each.

use Rattle.std.specs.Prelude.{◌≡◌, ℕ, ◌+◌, ◌*◌, ◌<◌, ◌≤◌, List, length}
use Rattle.rv_size_laws.specs.Offsets.{offset}

-- each of the sums is that of 64 of the numbers, so before sum b lie 64 * b numbers; the sums are
-- enough for all numbers
pub record AreSums (numbers sums : List ℕ) : Type 0 where
  pub same : (b : ℕ) → offset sums b ≡ offset numbers (64 * b)
  pub enough : length numbers < 64 * length sums

pub record AreTripleSums (numbers ones twos threes : List ℕ) : Type 0 where
  pub ones_are : AreSums numbers ones
  pub twos_are : AreSums ones twos
  pub threes_are : AreSums twos threes
