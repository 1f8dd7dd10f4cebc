-- Where the relocations of a file lead.

use Rattle.std.specs.Prelude.{ℕ, suc, Bool, List, Option, option_and_then}
use Rattle.std.specs.List.{list_any, slice_get}
use Rattle.rv_map_laws.specs.declared.map.SectionId.{SectionId}
use Rattle.rv_object_laws.specs.Object.{Relocation, Object}
use Rattle.rv_link_laws.specs.Collects.{lies_in}
use Rattle.rv_link_laws.specs.Names.{Place, symbol_place}

-- where the symbol of a relocation stands, of an object that is a file, from 0
abbrev pub target_in : List Object → ℕ → Object → Relocation → Option Place
target_in os file o r =
    option_and_then
    (λ index. option_and_then (symbol_place os (suc file)) (slice_get o.symbols index)) r.symbol

-- one of these relocations leads to a section
abbrev pub leads_in : List Object → ℕ → Object → SectionId → List Relocation → Bool
leads_in os file o t rs = list_any (λ r. lies_in t (target_in os file o r)) rs
