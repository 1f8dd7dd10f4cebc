-- The relocations of a section by its index.

use Rattle.std.specs.Prelude.{◌≡◌, ◌==◌, ℕ, List, [], ◌∷◌, ◌++◌, length, Option, Some, None, slice_get, if◌then◌else◌}
use Rattle.std.specs.Global.{Vec}
use Rattle.rv_object_types.specs.declared.relocation.Relocation.{Relocation as DeclaredRelocation}
use Rattle.rv_object_laws.specs.Object.{Relocation}
use Rattle.rv_assemble_laws.specs.Fields.{Field}
use Rattle.rv_assemble.specs.Making.{list_of, field_relocation}

abbrev pub list_of_some : Option (Vec DeclaredRelocation) → List Relocation
list_of_some None = []
list_of_some (Some v) = list_of v

abbrev pub list_in : List (Vec DeclaredRelocation) → ℕ → List Relocation
list_in lists j = list_of_some (slice_get lists j)

-- the section of a field has one relocation more, the others have their own
abbrev pub GainsOne : List (Vec DeclaredRelocation) → List (Vec DeclaredRelocation) → Field →
    Option ℕ → Type 0
GainsOne old new f n =
    (length new ≡ length old)
    × ((j : ℕ) → list_in new j
    ≡ (if j == f.section then list_in old j ++ field_relocation f n ∷ [] else list_in old j))
