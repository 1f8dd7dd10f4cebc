-- Where the symbols of objects stand, and how many bytes are left of each (gABI, "Symbol Table",
-- st_value, st_size).

use Rattle.std.specs.Prelude.{ℕ, suc, ◌+◌, ◌-◌, nat_le, List, [], ◌∷◌, map, Option, Some, None, option_map, option_and_then, unwrap_or, if◌then◌else◌}
use Rattle.std.specs.List.{slice_get}
use Rattle.std.specs.Global.{Vec}
use Rattle.rv_object_laws.specs.declared.symbol.Definition.{Definition}
use Rattle.rv_object_laws.specs.declared.symbol.Definition.TheVariants as definitions
use Rattle.rv_object_laws.specs.Object.{Section, Symbol, Object, size_of}
use Rattle.rv_link_laws.specs.Inputs.{Starts}
use Rattle.rv_link_laws.specs.Layout.{Layout, outer_in}
use Rattle.rv_link_laws.specs.Names.{Outer, symbol_address}
use Rattle.rv_addresses.specs.declared.extents.SymbolExtent.{SymbolExtent}

-- ---- ends

-- how many bytes symbols have, by file and index, both from 0
abbrev pub SymbolSizes : Type 0
SymbolSizes = ℕ → ℕ → ℕ

-- as lists have them: what they don't have is 0
abbrev pub listed_size : List (Vec ℕ) → (file index : ℕ) → Option ℕ
listed_size files file index =
    option_and_then (λ (sizes : Vec ℕ). slice_get sizes.items index) (slice_get files file)

abbrev pub sizes_in : List (Vec ℕ) → SymbolSizes
sizes_in files file index = unwrap_or (listed_size files file index) 0

-- the end of so many bytes from an offset on; of none, where the section ends before
abbrev pub end_within : (total offset size : ℕ) → ℕ
end_within total offset size = if nat_le (offset + size) total then offset + size else offset

abbrev pub end_offset : (offset size : ℕ) → Option Section → ℕ
end_offset offset size None = offset
end_offset offset size (Some s) = end_within (size_of s.contents) offset size

abbrev pub definition_end : Object → ℕ → Definition → Definition
definition_end o size (definitions.InSection section offset) =
    definitions.InSection section (end_offset offset size (slice_get o.sections section))
definition_end o size definitions.Undefined = definitions.Undefined
definition_end o size (definitions.Absolute n) = definitions.Absolute n
definition_end o size (definitions.Skipped n) = definitions.Skipped n

-- a symbol that stands where it ends
abbrev pub ended_symbol : Object → ℕ → Symbol → Symbol
ended_symbol o size s = record s { definition = definition_end o size s.definition }

-- those of an object from an index on
abbrev pub ended_symbols : Object → (ℕ → ℕ) → ℕ → List Symbol → List Symbol
ended_symbols o sizes index [] = []
ended_symbols o sizes index (s ∷ ss) =
    ended_symbol o (sizes index) s ∷ ended_symbols o sizes (suc index) ss

abbrev pub ended_object : (ℕ → ℕ) → Object → Object
ended_object sizes o = record o { symbols = ended_symbols o sizes 0 o.symbols }

-- those of files from a number on
abbrev pub ended_from : SymbolSizes → ℕ → List Object → List Object
ended_from sizes file [] = []
ended_from sizes file (o ∷ os) = ended_object (sizes file) o ∷ ended_from sizes (suc file) os

-- objects whose symbols stand where they end
abbrev pub at_ends : SymbolSizes → List Object → List Object
at_ends sizes os = ended_from sizes 0 os

-- ---- addresses

abbrev pub addresses_in : Outer → (ℕ → ℕ) → Object → List (Option ℕ)
addresses_in outer starts o = map (symbol_address outer starts o) o.symbols

abbrev pub addresses_from : Outer → Starts → ℕ → List Object → List (List (Option ℕ))
addresses_from outer starts file [] = []
addresses_from outer starts file (o ∷ os) =
    addresses_in outer (starts file) o ∷ addresses_from outer starts (suc file) os

-- the addresses of the symbols of objects that stand so, by file and symbol
abbrev pub addresses_of : List Object → Layout → List (List (Option ℕ))
addresses_of os l = addresses_from (outer_in os l) l.starts 1 os

-- ---- extents

-- from an address up to an end
abbrev pub extent : Option ℕ → Option ℕ → Option SymbolExtent
extent address stop =
    option_map (λ a. record { address = a; size = unwrap_or stop a - a }) address

abbrev pub both_by : {A B C : Type 0} → (A → B → C) → List A → List B → List C
both_by f (x ∷ xs) (y ∷ ys) = f x y ∷ both_by f xs ys
both_by f xs ys = []

abbrev pub extents_in : List (Option ℕ) → List (Option ℕ) → List (Option SymbolExtent)
extents_in addresses stops = both_by extent addresses stops

-- by file and symbol
abbrev pub extents_by : List (List (Option ℕ)) → List (List (Option ℕ))
    → List (List (Option SymbolExtent))
extents_by addresses stops = both_by extents_in addresses stops
