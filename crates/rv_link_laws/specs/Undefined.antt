-- References without a meaning (gABI, "Symbol Table", SHN_UNDEF; GNU ld, "Symbols").

use Rattle.std.specs.Prelude.{ℕ, Bool, true, false, ◌||◌, List, [], ◌∷◌, Option, Some, None, codes, if◌then◌else◌}
use Rattle.std.specs.List.{slice_get}
use Rattle.std.specs.Option.{option_or}
use Rattle.rv_map_laws.specs.Globals.{is_one_of}
use Rattle.rv_object_laws.specs.declared.symbol.Definition.{Definition}
use Rattle.rv_object_laws.specs.declared.symbol.Definition.TheVariants as definitions
use Rattle.rv_object_laws.specs.Object.{Section, Symbol, Object}
use Rattle.rv_object_laws.specs.Bindings.{is_weak}
use Rattle.rv_link_laws.specs.Names.{Export, is_sure, chosen}

abbrev pub is_loaded_at : Option Section → Bool
is_loaded_at None = false
is_loaded_at (Some s) = s.loaded

-- a definition has an address, but for one in a section that has none or isn't kept
abbrev pub has_address : Object → Definition → Bool
has_address o definitions.Undefined = false
has_address o (definitions.Absolute n) = true
has_address o (definitions.InSection section offset) =
    is_loaded_at (slice_get o.sections section)
has_address o (definitions.Skipped n) = false

-- the names that the linker gives
abbrev pub linker_names : List (List ℕ)
linker_names =
    codes "_etext" ∷ codes "__bss_start" ∷ codes "_edata" ∷ codes "_end"
    ∷ codes "__global_pointer$" ∷ []

-- what a symbol's name means to all files has an address: its definition; where it has none, the
-- linker gives the name, or the symbol is weak and so is 0
abbrev pub is_known : Symbol → Option Export → Bool
is_known s (Some e) = has_address e.object e.symbol.definition
is_known s None = is_one_of linker_names s.name || is_weak s.binding

abbrev pub is_resolved : List Object → Object → Symbol → Bool
is_resolved os o s =
    if is_sure s then has_address o s.definition else is_known s (chosen os s.name)

-- the name of a symbol without an address; one that an object doesn't have has the name without
-- bytes
abbrev pub undefined_symbol : List Object → Object → Option Symbol → Option (List ℕ)
undefined_symbol os o None = Some []
undefined_symbol os o (Some s) = if is_resolved os o s then None else Some s.name

-- a relocation without a symbol needs none
abbrev pub undefined_name : List Object → Object → Option ℕ → Option (List ℕ)
undefined_name os o None = None
undefined_name os o (Some index) = undefined_symbol os o (slice_get o.symbols index)

-- the first name that a function gives
abbrev pub first_some : {X : Type 0} → (X → Option (List ℕ)) → List X → Option (List ℕ)
first_some name [] = None
first_some name (x ∷ xs) = option_or (name x) (first_some name xs)

abbrev pub undefined_in : List Object → Object → Section → Option (List ℕ)
undefined_in os o s =
    if s.loaded then first_some (λ r. undefined_name os o r.symbol) s.relocations else None

-- the first reference without a meaning, by object, section and relocation
abbrev pub first_undefined : List Object → Option (List ℕ)
first_undefined os = first_some (λ o. first_some (undefined_in os o) o.sections) os
