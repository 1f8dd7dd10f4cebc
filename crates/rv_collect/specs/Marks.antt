-- The marks of sections that the code keeps, and what is dropped by them.

use Rattle.std.specs.Prelude.{◌≡◌, ℕ, zero, suc, Bool, false, List, [], map, length, slice_index_or}
use Rattle.std.specs.Global.{Vec}
use Rattle.rv_map_laws.specs.declared.map.SectionId.{SectionId}
use Rattle.rv_object_laws.specs.Object.{Object}
use Rattle.rv_link_laws.specs.Collects.{loaded_sections}
use Rattle.rv_collect.specs.declared.collection.Collection.{Collection}
use Rattle.rv_collect.specs.declared.marks.Marks.{Marks}
use Rattle.rv_collect.specs.Drops.{mark_in}
use Rattle.rv_collect_laws.specs.Graph.{outside}

-- the marks of files, and those of one, from 0
abbrev pub mark_rows : Marks → List (List Bool)
mark_rows marks = map (λ (row : Vec Bool). row.items) marks.files.items

abbrev pub row_of : Marks → ℕ → List Bool
row_of marks file = slice_index_or (mark_rows marks) file []

-- the mark of a section, by its file and its index there, both from 0
abbrev pub mark_at : Marks → (file index : ℕ) → Bool
mark_at marks file index = mark_in (row_of marks file) index

-- each section of each object has one, and nothing else has
abbrev pub AreLike : List Object → Marks → Type 0
AreLike os marks = map length (mark_rows marks) ≡ map (λ o. length o.sections) os

-- the marked sections, by their numbers from 1
abbrev pub marked_by : (ℕ → ℕ → Bool) → (file section : ℕ) → Bool
marked_by marks zero section = false
marked_by marks (suc file) zero = false
marked_by marks (suc file) (suc index) = marks file index

abbrev pub is_marked : Marks → SectionId → Bool
is_marked marks s = marked_by (mark_at marks) s.file s.section

-- the sections with an address that are not marked
abbrev pub drops_of : List Object → Collection → List SectionId
drops_of os c = outside (is_marked c.marks) (loaded_sections os)
