-- What collection drops of objects: the sections with an address to which nothing leads from the
-- entry's section (GNU ld, "--gc-sections"; this project's profile of it).

use Rattle.std.specs.Prelude.{suc, Bool, false, ◌&&◌, ◌==◌, List, map, Option, Some, None, option_and_then, codes, if◌then◌else◌}
use Rattle.std.specs.List.{list_any}
use Rattle.rv_map_laws.specs.declared.map.SectionId.{SectionId}
use Rattle.rv_collect_laws.specs.Graph.{Graph, AreDrops}
use Rattle.rv_object_laws.specs.Object.{Relocation, Object}
use Rattle.rv_link_laws.specs.Inputs.{InputSection, inputs}
use Rattle.rv_link_laws.specs.Names.{Export, Place, place_in, chosen, begins_run}
use Rattle.rv_link_laws.specs.CallSites.{target_place}
use Rattle.rv_link_laws.specs.IsLinkOf.{is_loaded}

abbrev pub id_of : InputSection → SectionId
id_of i = record { file = i.file; section = suc i.index }

-- the sections with an address
abbrev pub loaded_sections : List Object → List SectionId
loaded_sections os = map id_of (inputs is_loaded os)

-- a place lies in a section
abbrev pub lies_in : SectionId → Option Place → Bool
lies_in s None = false
lies_in s (Some p) = (p.file == s.file) && (suc p.section == s.section)

-- the place that a definition gives a run to begin at
abbrev pub run_place : Export → Option Place
run_place e = if begins_run e then place_in e.file e.symbol.definition else None

-- what the name `_start` means, if a run can begin there
abbrev pub entry_place : List Object → Option Place
entry_place os = option_and_then run_place (chosen os (codes "_start"))

-- the symbol of a relocation means a place in a section
abbrev pub leads_to : List Object → SectionId → InputSection → Relocation → Bool
leads_to os t i r = lies_in t (target_place os i r)

abbrev pub is_at : SectionId → InputSection → Bool
is_at s i = (i.file == s.file) && (suc i.index == s.section)

-- one section refers to another by one of its relocations, whatever its type
abbrev pub refers : List Object → SectionId → SectionId → Bool
refers os s t =
    list_any (λ i. is_at s i && list_any (leads_to os t i) i.section.relocations)
    (inputs is_loaded os)

abbrev pub graph_of : List Object → Graph
graph_of os = record {
  sections = loaded_sections os;
  begins = λ s. lies_in s (entry_place os);
  refers = refers os;
}

-- what collection, where it is on, drops of objects
abbrev pub Collects : (gc : Bool) → List Object → List SectionId → Type 0
Collects gc os drops = AreDrops gc (graph_of os) drops
