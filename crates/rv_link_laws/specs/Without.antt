-- Objects without the sections that collection dropped: a dropped one has no address,
-- no relocations and no rows, and what stands in it stays defined (GNU ld, "--gc-sections";
-- this project's profile of it).

use Rattle.std.specs.Prelude.{ℕ, suc, Bool, false, not, List, [], ◌∷◌, filter, if◌then◌else◌}
use Rattle.rv_map_laws.specs.declared.map.SectionId.{SectionId}
use Rattle.rv_collect_laws.specs.Graph.{is_dropped}
use Rattle.rv_object_laws.specs.Object.{Section, Object}

abbrev pub without_section : Bool → Section → Section
without_section dropped s =
    if dropped then record s { loaded = false; relocations = [] } else s

abbrev pub without_sections : (ℕ → Bool) → ℕ → List Section → List Section
without_sections dropped index [] = []
without_sections dropped index (s ∷ ss) =
    without_section (dropped index) s ∷ without_sections dropped (suc index) ss

abbrev pub without_object : (ℕ → Bool) → Object → Object
without_object dropped o = record {
  sections = without_sections dropped 0 o.sections;
  symbols = o.symbols;
  rows = filter (λ r. not (dropped r.section)) o.rows;
  rvc = o.rvc;
}

abbrev pub without_from : List SectionId → ℕ → List Object → List Object
without_from drops file [] = []
without_from drops file (o ∷ os) =
    without_object (is_dropped drops file) o ∷ without_from drops (suc file) os

abbrev pub without : List SectionId → List Object → List Object
without drops os = without_from drops 1 os
