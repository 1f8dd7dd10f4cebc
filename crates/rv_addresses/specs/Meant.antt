-- What a symbol means: a definition, as it has moved.

use Rattle.std.specs.Prelude.{◌-◌, ℕ, List, Option, Some, option_map, if◌then◌else◌}
use Rattle.std.specs.Borrow.{Bor}
use Rattle.rv_object_laws.specs.Object.{Symbol, Object}
use Rattle.rv_link_laws.specs.Names.{Export, chosen, is_sure}
use Rattle.rv_addresses.specs.declared.resolution.Meant.{Meant}

abbrev pub meant_of : Export → Meant
meant_of e = record { file = record { 0 = e.file - 1 }; definition = e.symbol.definition }

-- what a symbol of a file means: what its own object surely defines,
-- else the definition of its name
abbrev pub meant_by : List Object → ℕ → Symbol → Option Meant
meant_by os file s =
    if is_sure s
    then Some (record { file = record { 0 = file }; definition = s.definition })
    else option_map meant_of (chosen os s.name)

abbrev pub name_bytes : Bor (List ℕ) → List ℕ
name_bytes name = name.now
