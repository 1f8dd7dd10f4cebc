-- What is dropped of a file, by the marks of its sections.

use Rattle.std.specs.Prelude.{ℕ, suc, Bool, false, not, ◌&&◌, List, [], ◌∷◌, slice_index_or, if◌then◌else◌}
use Rattle.std.specs.List.{slice_get}
use Rattle.rv_map_laws.specs.declared.map.SectionId.{SectionId}
use Rattle.rv_object_laws.specs.Object.{Section}
use Rattle.rv_link_laws.specs.Undefined.{is_loaded_at}

-- a section by its file and its index there, both from 0
abbrev pub id_at : (file index : ℕ) → SectionId
id_at file index = record { file = suc file; section = suc index }

-- the mark of a section, by its index in a file
abbrev pub mark_in : List Bool → ℕ → Bool
mark_in marks index = slice_index_or marks index false

-- a section with an address is dropped if it is not marked
abbrev pub drops_in : List Section → List Bool → ℕ → Bool
drops_in sections marks index =
    is_loaded_at (slice_get sections index) && not (mark_in marks index)

-- those of sections of a file, from 0, from an index on
abbrev pub dropped_from : (ℕ → Bool) → (file index : ℕ) → List Section → List SectionId
dropped_from dropped file index [] = []
dropped_from dropped file index (s ∷ ss) =
    let rest = dropped_from dropped file (suc index) ss in
    if dropped index then id_at file index ∷ rest else rest
