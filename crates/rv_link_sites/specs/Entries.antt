-- The offsets that symbols name, by section.

use Rattle.std.specs.Prelude.{ℕ, ◌+◌, ◌<◌, ◌==◌, Bool, ◌&&◌, nat_lt, List, [], ◌∷◌, ◌++◌, Option, Some, None, length, if◌then◌else◌}
use Rattle.std.specs.List.{slice_get}
use Rattle.std.specs.List.Sorted.{IsPermutation, IsNonDecreasing}
use Rattle.std.specs.Global.{Vec}
use Rattle.rv_object_laws.specs.declared.symbol.Definition.{Definition}
use Rattle.rv_object_laws.specs.declared.symbol.Definition.TheVariants as definitions
use Rattle.rv_object_laws.specs.Object.{Symbol, Object}
use Rattle.rv_link_sites.specs.declared.entries.Entries.{Entries}

-- the offset of a definition, if it is in the section of an index
abbrev pub offset_in : ℕ → Definition → List ℕ
offset_in index (definitions.InSection section offset) =
    if section == index then offset ∷ [] else []
offset_in index definitions.Undefined = []
offset_in index (definitions.Absolute n) = []
offset_in index (definitions.Skipped n) = []

abbrev pub offsets_in : ℕ → List Symbol → List ℕ
offsets_in index [] = []
offsets_in index (s ∷ ss) = offset_in index s.definition ++ offsets_in index ss

-- the list of an index; none past the end
abbrev pub items_of : Option (Vec ℕ) → List ℕ
items_of None = []
items_of (Some v) = v.items

abbrev pub list_at : List (Vec ℕ) → ℕ → List ℕ
list_at lists index = items_of (slice_get lists index)

-- strictly inside the eight bytes at a place
abbrev pub is_within_call : ℕ → ℕ → Bool
is_within_call place offset = nat_lt place offset && nat_lt offset (place + 8)

-- the offsets that symbols of an object name, those of each section in order
pub record AreEntries (o : Object) (e : Entries) : Type 0 where
  pub same : (index : ℕ) → index < length o.sections →
      IsPermutation (offsets_in index o.symbols) (list_at e.offsets.items index)
  pub rise : (index : ℕ) → index < length o.sections →
      IsNonDecreasing (list_at e.offsets.items index)
