-- What the laws ask of objects.

use Rattle.std.specs.Prelude.{◌≡◌, ℕ, ◌%◌, Bool, true, IsTrue, List, Some}
use Rattle.std.specs.List.{AllByRecursion, slice_get}
use Rattle.rv_map_laws.specs.declared.map.SectionId.{SectionId}
use Rattle.rv_object_laws.specs.Object.{Object}
use Rattle.rv_object_laws.specs.Valid.{is_section_alignment, fit_inside, are_paddings, are_rows}
use Rattle.rv_link_laws.specs.Inputs.{Starts, goes_to_text, inputs, Stand}
use Rattle.rv_link_laws.specs.Names.{entry_of}
use Rattle.rv_link_laws.specs.IsProgramOf.{Leaves}
use Rattle.rv_link_laws.specs.Undefined.{is_loaded_at}

-- ---- what each law needs

-- each row stands in a section that has an address
abbrev pub HasPlacedRows : Object → Type 0
HasPlacedRows o =
    AllByRecursion (λ r. is_loaded_at (slice_get o.sections r.section) ≡ true) o.rows

abbrev pub HavePlacedRows : List Object → Type 0
HavePlacedRows os = AllByRecursion HasPlacedRows os

-- where the text's sections stand one behind the other, a run begins at an even address
abbrev pub BeginsEven : List Object → ℕ → Type 0
BeginsEven os start =
    (starts : Starts) → Stand starts start (inputs goes_to_text os)
    → (a : ℕ) → entry_of starts os ≡ Some a → a % 2 ≡ 0

-- ---- of what collection and relaxation leave

abbrev pub LeavesEven : List Object → ℕ → Bool → Bool → Type 0
LeavesEven os start relax gc =
    (drops : List SectionId) (left : List Object) → Leaves os relax gc drops left
    → BeginsEven left start

-- ---- objects that have it

-- what each object of the code keeps
pub record IsSound (o : Object) : Type 0 where
  pub alignments : AllByRecursion (λ s. IsTrue (is_section_alignment s.alignment)) o.sections
  pub inside : AllByRecursion (λ s. IsTrue (fit_inside s.contents s.relocations)) o.sections
  pub paddings : AllByRecursion
      (λ s. IsTrue (are_paddings s.executable s.contents s.relocations)) o.sections
  pub rows : IsTrue (are_rows o.sections o.rows)
