-- The names that a map shows, by where the sections of objects stand (GNU ld, "Symbols").

use Rattle.std.specs.Prelude.{ℕ, ◌+◌, Bool, false, ◌&&◌, ◌==◌, List, [], ◌∷◌, Option, Some, None, filter, flat_map}
use Rattle.std.specs.Borrow.{Bor}
use Rattle.rv_map_laws.specs.Globals.{global, shown}
use Rattle.rv_map_laws.specs.Map.{Global}
use Rattle.rv_object_laws.specs.Object.{Symbol, Object}
use Rattle.rv_object_laws.specs.Bindings.{is_shared}
use Rattle.rv_link_laws.specs.Names.{Export, export_address, exports_in, is_export, is_chosen}
use Rattle.rv_names.specs.declared.definitions.Exported.{Exported}
use Rattle.rv_placement.specs.declared.placement.Placement.{Placement}
use Rattle.rv_placement.specs.Placement.{starts_of}

-- the definitions with addresses among some
abbrev pub shown_exports : Placement → List Export → List Global
shown_exports p es =
    flat_map (λ e. shown e.symbol.name (export_address (starts_of p) e)) es

-- the symbol at an index of a file, both from 0, as a definition
abbrev pub export_at : ℕ → Object → ℕ → Symbol → Export
export_at file o index s = record { file = file + 1; object = o; index = index; symbol = s }

-- whether it is one that its name means
abbrev pub is_chosen_at : List Object → ℕ → Object → ℕ → Symbol → Bool
is_chosen_at os file o index s = is_export is_shared s && is_chosen os (export_at file o index s)

-- what is shown of symbols of a file, from an index on, both from 0
abbrev pub shown_in : List Object → Placement → ℕ → Object → ℕ → List Symbol → List Global
shown_in os p file o index ss =
    shown_exports p (filter (is_chosen os) (exports_in is_shared (file + 1) o index ss))

-- a name and its address, if they are shown
abbrev pub listed : Option (Bor (List ℕ) × ℕ) → List Global
listed None = []
listed (Some p) = global p.0.now p.1 ∷ []

-- whether a table names the symbol at an index of a file
abbrev pub is_kept : (file index : ℕ) → Option Exported → Bool
is_kept file index None = false
is_kept file index (Some x) = (x.file.0 == file) && (x.symbol.0 == index)
