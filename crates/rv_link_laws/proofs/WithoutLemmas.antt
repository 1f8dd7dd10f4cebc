-- Objects without some of their sections.

use Rattle.std.proofs.Common.{◌≡◌, ℕ, zero, suc, ◌+◌, ◌-◌, ◌≤◌, Bool, false, not, List, [], ◌∷◌, length, filter, slice_index_or, refl, ap, ◌∙◌, Some, arith}
use Rattle.std.specs.List.{slice_get}
use Rattle.std.specs.Option.{option_map}
use Rattle.rv_map_laws.specs.declared.map.SectionId.{SectionId}
use Rattle.rv_collect_laws.specs.Graph.{is_dropped}
use Rattle.rv_object_laws.specs.declared.row.Row.{Row}
use Rattle.rv_object_laws.specs.Object.{Section, Object}
use Rattle.rv_link_laws.specs.Names.{no_object, object_at}
use Rattle.rv_link_laws.specs.Without.{without_section, without_sections, without_object, without_from, without}

-- ---- without nothing they are the same

all_rows : (rs : List Row) → filter (λ r. not false) rs ≡ rs
all_rows [] = refl
all_rows (r ∷ rs) = ap (λ l. r ∷ l) (all_rows rs)

all_sections : (index : ℕ) (ss : List Section) → without_sections (λ i. false) index ss ≡ ss
all_sections index [] = refl
all_sections index (s ∷ ss) = ap (λ l. s ∷ l) (all_sections (suc index) ss)

all_objects : (file : ℕ) (os : List Object) → without_from [] file os ≡ os
all_objects file [] = refl
all_objects file (o ∷ os) =
    ap (λ ss. record o { sections = ss; rows = filter (λ r. not false) o.rows } ∷ without_from [] (suc file) os) (all_sections 0 o.sections)
    ∙ ap (λ rs. record o { rows = rs } ∷ without_from [] (suc file) os) (all_rows o.rows)
    ∙ ap (λ l. o ∷ l) (all_objects (suc file) os)

-- where nothing is dropped, objects are left as they are
pub without_none : (os : List Object) → without [] os ≡ os
without_none os = all_objects 1 os

-- ---- as many stand at the same indices

pub as_many_sections : (dropped : ℕ → Bool) (index : ℕ) (ss : List Section) → length (without_sections dropped index ss) ≡ length ss
as_many_sections dropped index [] = refl
as_many_sections dropped index (s ∷ ss) = ap suc (as_many_sections dropped (suc index) ss)

pub as_many_from : (drops : List SectionId) (file : ℕ) (os : List Object) → length (without_from drops file os) ≡ length os
as_many_from drops file [] = refl
as_many_from drops file (o ∷ os) = ap suc (as_many_from drops (suc file) os)

-- there are as many files
pub as_many_objects : (drops : List SectionId) (os : List Object) → length (without drops os) ≡ length os
as_many_objects drops os = as_many_from drops 1 os

-- what is left of a section, by its index among those from an index on
pub section_from : (dropped : ℕ → Bool) (k : ℕ) (ss : List Section) (j : ℕ) → slice_get (without_sections dropped k ss) j ≡ option_map (without_section (dropped (k + j))) (slice_get ss j)
section_from dropped k [] j = refl
section_from dropped k (s ∷ ss) zero = ap (λ n. Some (without_section (dropped n) s)) (let e : k ≡ k + 0 = omega arith in e)
section_from dropped k (s ∷ ss) (suc j) =
    section_from dropped (suc k) ss j ∙ ap (λ n. option_map (without_section (dropped n)) (slice_get ss j)) (let e : suc k + j ≡ k + suc j = omega arith in e)

-- what is left of a section of an object, by its index
pub section_left : (dropped : ℕ → Bool) (o : Object) (index : ℕ) → slice_get (without_object dropped o).sections index ≡ option_map (without_section (dropped index)) (slice_get o.sections index)
section_left dropped o index =
    section_from dropped 0 o.sections index ∙ ap (λ n. option_map (without_section (dropped n)) (slice_get o.sections index)) (let e : 0 + index ≡ index = omega arith in e)

object_from : (drops : List SectionId) (file : ℕ) (os : List Object) (n : ℕ)
    → slice_index_or (without_from drops file os) n no_object ≡ without_object (is_dropped drops (file + n)) (slice_index_or os n no_object)
object_from drops file [] n = refl
object_from drops file (o ∷ os) zero = ap (λ k. without_object (is_dropped drops k) o) (let e : file ≡ file + 0 = omega arith in e)
object_from drops file (o ∷ os) (suc n) =
    object_from drops (suc file) os n ∙ ap (λ k. without_object (is_dropped drops k) (slice_index_or os n no_object)) (let e : suc file + n ≡ file + suc n = omega arith in e)

-- what is left of an object, by its file
pub object_left : (drops : List SectionId) (os : List Object) (file : ℕ) → 1 ≤ file → object_at (without drops os) file ≡ without_object (is_dropped drops file) (object_at os file)
object_left drops os file some =
    object_from drops 1 os (file - 1) ∙ ap (λ k. without_object (is_dropped drops k) (object_at os file)) (let e : 1 + (file - 1) ≡ file = omega (arith, some) in e)
