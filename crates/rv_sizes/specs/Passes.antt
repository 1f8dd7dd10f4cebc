-- What the tables hold while a pass goes over the statements: each statement's start, or what is
-- left from it on.

use Rattle.std.specs.Prelude.{◌≡◌, ◌⊎◌, ℕ, ◌*◌, ◌^◌, ◌<◌, Bool, true, List, length, slice_index, ℤ}
use Rattle.rv_size_laws.specs.declared.item.Item.{Item}
use Rattle.rv_size_laws.specs.Offsets.{offset, rest, Reaches}
use Rattle.rv_size_laws.specs.Steps.{IsLook}
use Rattle.rv_size_laws.specs.Tables.{IsTableAt}
use Rattle.rv_size_laws.specs.Branches.{half, is_branch, item_at, largest, of_section, IsFamily, MayWiden, ReachesBy}

-- a statement stands in one of so many sections, and its target is a statement of that section
pub record TargetsItsSection (items : List Item) (sections : ℕ) (item : Item) : Type 0 where
  pub in_section : item.section < sections
  pub has_target : item.target < length items
  pub same_section : is_branch item.forms ≡ true →
      (item_at items item.target).section ≡ item.section

-- and so do all of them
pub record IsInput (items : List Item) (sections : ℕ) : Type 0 where
  pub few : length items < 2 ^ 30
  pub within : (i : ℕ) → i < length items → TargetsItsSection items sections (item_at items i)

-- the sizes in a statement's section
abbrev pub around : List Item → List ℕ → ℕ → List ℕ
around items sizes i = of_section (item_at items i).section items sizes

-- statements before i have their starts in the table, those from i on what is left
pub record IsTable (items : List Item) (i : ℕ) (sizes stands : List ℕ) : Type 0 where
  pub family : IsFamily items sizes
  pub bounded : (j : ℕ) → slice_index sizes j < 2 ^ 32
  pub table : IsTableAt (length items) i (around items sizes) stands

-- the bytes of each section before statement i, and from it on
abbrev pub AreStarts : List Item → ℕ → List ℕ → List ℕ → Type 0
AreStarts items i sizes ends =
    (s : ℕ) → s < length ends → slice_index ends s ≡ offset (of_section s items sizes) i

abbrev pub AreRests : List Item → ℕ → List ℕ → List ℕ → Type 0
AreRests items i sizes ends =
    (s : ℕ) → s < length ends → slice_index ends s ≡ rest (of_section s items sizes) i

-- at a distance a size stays where it is the largest or reaches, and else is doubled
abbrev pub IsJudged : Item → ℤ → (size wider : ℕ) → Type 0
IsJudged item away size wider =
    ((wider ≡ size) × (size < largest item.forms → Reaches (half item.forms size) item.addend away))
    ⊎ ((wider ≡ 2 * size) × ((size < largest item.forms)
    × (Reaches (half item.forms size) item.addend away → ⊥)))

-- a statement's size stands
abbrev pub Stays : List Item → List ℕ → ℕ → Type 0
Stays items sizes i =
    slice_index sizes i < largest (item_at items i).forms →
    ReachesBy items sizes i (slice_index sizes i)

-- what looking at statement i does, and tells
abbrev pub IsVisit : List Item → ℕ → (old new : List ℕ) → Bool → Type 0
IsVisit items = IsLook (MayWiden items) (Stays items)
