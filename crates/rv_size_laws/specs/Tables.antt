-- A table of where parts stand while a pass goes over them and changes them: it stays exact for
-- those behind the pass by what lies before each, for those ahead by what lies from each on.

use Rattle.std.specs.Prelude.{◌≡◌, ℕ, ◌≤◌, ◌<◌, ltb, List, length, slice_index, ℤ, pos, ◌-ℤ◌, if◌then◌else◌}
use Rattle.rv_size_laws.specs.Offsets.{offset, rest}

-- before part i; each part counts the amounts of a list
pub record IsTableAt (parts i : ℕ) (amounts : ℕ → List ℕ) (stands : List ℕ) : Type 0 where
  pub same_length : length stands ≡ parts
  pub starts : (j : ℕ) → j < i → slice_index stands j ≡ offset (amounts j) j
  pub rests : (j : ℕ) → i ≤ j → j < parts → slice_index stands j ≡ rest (amounts j) j

-- from part i to a target by the table, where i's start is known, or what lies from i on
abbrev pub forwards_away : List ℕ → (start i target : ℕ) → ℤ
forwards_away stands start i target =
    if ltb target i then pos (slice_index stands target) -ℤ pos start
    else pos (slice_index stands i) -ℤ pos (slice_index stands target)

abbrev pub backwards_away : List ℕ → (left i target : ℕ) → ℤ
backwards_away stands left i target =
    if ltb i target then pos left -ℤ pos (slice_index stands target)
    else pos (slice_index stands target) -ℤ pos (slice_index stands i)
