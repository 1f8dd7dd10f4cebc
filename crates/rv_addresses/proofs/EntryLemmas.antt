-- Where a run begins: at what `_start` means.

use Rattle.std.proofs.Common.{◌≡◌, ◌+◌, None, List, sym, ap, ◌∙◌}
use Rattle.std.specs.Prelude.{option_and_then, if◌then◌else◌}
use Rattle.rv_object_laws.specs.Object.{Object}
use Rattle.rv_link_laws.specs.Inputs.{Starts}
use Rattle.rv_link_laws.specs.Names.{defined_address, can_begin, run_start, entry_of}
use Rattle.rv_link_laws.proofs.EntryLemmas.{start_name}
use Rattle.rv_addresses.specs.declared.resolution.Meant.{Meant}
use Rattle.rv_addresses.proofs.MeantLemmas.{IsKept}

-- by what is kept of the name
pub start_kept : (starts : Starts) (os : List Object) (x : Meant) (k : IsKept os start_name x)
    → entry_of starts os ≡ (if can_begin k.export.object x.definition then defined_address (starts (x.file.0 + 1)) k.export.object x.definition else None)
start_kept starts os x k =
    let e = k.export in
    ap (option_and_then (run_start starts)) k.found
    ∙ ap (λ n. if can_begin e.object e.symbol.definition then defined_address (starts n) e.object e.symbol.definition else None) (sym k.file)
    ∙ ap (λ (y : Meant). if can_begin e.object y.definition then defined_address (starts (x.file.0 + 1)) e.object y.definition else None) k.same
