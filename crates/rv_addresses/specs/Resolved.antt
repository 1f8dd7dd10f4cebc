-- That each reference has a meaning (gABI, "Relocation"; `rv_link_laws`, IsRelocated, resolved).

use Rattle.std.specs.Prelude.{IsTrue, List, is_some}
use Rattle.std.specs.List.{AllByRecursion}
use Rattle.rv_object_laws.specs.Object.{Object}
use Rattle.rv_link_laws.specs.Inputs.{Starts, inputs}
use Rattle.rv_link_laws.specs.IsLinkOf.{is_loaded}
use Rattle.rv_link_laws.specs.Names.{Outer}
use Rattle.rv_link_laws.specs.Values.{target}

-- the symbol of each relocation has an address, where others define these
abbrev pub AreResolved : Starts → List Object → Outer → Type 0
AreResolved starts os outer =
    AllByRecursion
    (λ i. AllByRecursion
    (λ r. IsTrue (is_some (target outer (starts i.file) i.object r.symbol)))
    i.section.relocations)
    (inputs is_loaded os)
