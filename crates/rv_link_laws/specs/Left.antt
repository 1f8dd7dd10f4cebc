-- What is left of the input sections and the names of objects without the sections that collection
-- dropped, and which places stand in none of those.

use Rattle.std.specs.Prelude.{◌≡◌, ⊤, Bool, false, not, List, Option, Some, None}
use Rattle.std.specs.List.{AllByRecursion}
use Rattle.rv_map_laws.specs.declared.map.SectionId.{SectionId}
use Rattle.rv_collect_laws.specs.Graph.{is_dropped}
use Rattle.rv_object_laws.specs.Object.{Section, Object}
use Rattle.rv_link_laws.specs.Inputs.{InputSection, inputs}
use Rattle.rv_link_laws.specs.Names.{Export, Place}
use Rattle.rv_link_laws.specs.CallSites.{target_place}
use Rattle.rv_link_laws.specs.IsLinkOf.{is_loaded}
use Rattle.rv_link_laws.specs.Without.{without_object}

-- a test of sections that none without an address passes
abbrev pub IsOfLoaded : (Section → Bool) → Type 0
IsOfLoaded goes = (s : Section) → s.loaded ≡ false → goes s ≡ false

-- a section that is not dropped
abbrev pub is_left : List SectionId → InputSection → Bool
is_left drops i = not (is_dropped drops i.file i.index)

-- the same section in what is left of its object
abbrev pub left_of : List SectionId → InputSection → InputSection
left_of drops i = record {
  file = i.file;
  object = without_object (is_dropped drops i.file) i.object;
  index = i.index;
  section = i.section;
}

-- the same definition in what is left of its object
abbrev pub export_left : List SectionId → Export → Export
export_left drops e = record {
  file = e.file;
  object = without_object (is_dropped drops e.file) e.object;
  index = e.index;
  symbol = e.symbol;
}

-- a place, where there is one, stands in no dropped section
abbrev pub IsNotDropped : List SectionId → Option Place → Type 0
IsNotDropped drops None = ⊤
IsNotDropped drops (Some p) = is_dropped drops p.file p.section ≡ false

-- no relocation of objects leads to a dropped section
abbrev pub ReferToKept : List SectionId → List Object → Type 0
ReferToKept drops os =
    AllByRecursion
    (λ i. AllByRecursion (λ r. IsNotDropped drops (target_place os i r)) i.section.relocations)
    (inputs is_loaded os)
