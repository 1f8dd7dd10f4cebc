-- The names of a link by the symbol tables of its objects' files (gABI, "Symbol Table"; GNU as,
-- "Symbol Names"): the labels of the objects, and the globals of the map, each with the type that
-- its file says, and where the link put it, with as many of its bytes as are left.

use Rattle.std.specs.Prelude.{ℕ, ◌%◌, ◌==◌, suc, Bool, true, false, not, ◌&&◌, List, [], ◌∷◌, ◌++◌, map, flat_map, bytes_eq, Option, Some, None, option_and_then, option_map, if◌then◌else◌}
use Rattle.std.specs.List.{find, slice_get}
use Rattle.rv_map_laws.specs.Map.{Global}
use Rattle.rv_elf_laws.specs.declared.symbol.Symbol.{Symbol as SymbolRecord}
use Rattle.rv_object_laws.specs.declared.symbol.Binding.{Binding}
use Rattle.rv_object_laws.specs.declared.symbol.Binding.TheVariants.{Local, Global as Shared, Weak}
use Rattle.rv_object_laws.specs.declared.symbol.Definition.{Definition}
use Rattle.rv_object_laws.specs.declared.symbol.Definition.TheVariants.{Undefined, Absolute, InSection, Skipped}
use Rattle.rv_object_laws.specs.Bindings.{is_weak}
use Rattle.rv_object_laws.specs.Object.{Symbol}
use Rattle.rv_link_laws.specs.Names.{is_defined}
use Rattle.rv_addresses.specs.declared.extents.SymbolExtent.{SymbolExtent}
use Rattle.rv_debug_laws.specs.declared.mark.SymbolType.{SymbolType}
use Rattle.rv_debug_laws.specs.declared.mark.SymbolType.TheVariants.{NoType, Datum, Function}
use Rattle.rv_debug_laws.specs.Labels.{global_by, is_asked, one_of}
use Rattle.rv_debug_laws.specs.Symbols.{KnownName, Names}

-- a linked object: its symbols, what its file has of each, and where the link put each
pub record Tabled : Type 0 where
  pub symbols : List Symbol
  pub records : List SymbolRecord
  pub extents : List (Option SymbolExtent)

-- ---- one symbol

-- ELF64_ST_TYPE: STT_NOTYPE, STT_OBJECT, STT_FUNC. Sections, sources and others are no names
abbrev pub type_numbered : ℕ → Option SymbolType
type_numbered number = if number == 0 then Some NoType
    else if number == 1 then Some Datum
    else if number == 2 then Some Function
    else None

abbrev pub type_at : List SymbolRecord → (index : ℕ) → Option SymbolType
type_at records index =
    option_and_then (λ r. type_numbered (r.st_info % 16)) (slice_get records index)

abbrev pub extent_at : List (Option SymbolExtent) → (index : ℕ) → Option SymbolExtent
extent_at extents index = option_and_then (λ extent. extent) (slice_get extents index)

-- a symbol as a name, if it is one that has an address
abbrev pub symbol_name : Tabled → (index : ℕ) → Symbol → Option KnownName
symbol_name o index s =
    option_and_then (λ kind. option_map
    (λ e. record { name = s.name; address = e.address; kind = kind; size = e.size })
    (extent_at o.extents index)) (type_at o.records index)

-- ---- which ones

abbrev pub is_place : Definition → Bool
is_place Undefined = false
is_place (Absolute n) = false
is_place (InSection section offset) = true
is_place (Skipped n) = false

-- of the local symbols the labels, and of those that all files can mean the definitions
abbrev pub is_wanted : Binding → Symbol → Bool
is_wanted Local s = is_asked false s && is_place s.definition
is_wanted Shared s = is_asked true s && (not (is_weak s.binding) && is_defined s.definition)
is_wanted Weak s = is_asked true s && (is_weak s.binding && is_defined s.definition)

abbrev pub wanted_name : Binding → Tabled → (index : ℕ) → Symbol → List KnownName
wanted_name binding o index s =
    if is_wanted binding s then one_of (symbol_name o index s) else []

-- those of symbols from an index on
abbrev pub names_from : Binding → Tabled → (index : ℕ) → List Symbol → List KnownName
names_from binding o index [] = []
names_from binding o index (s ∷ ss) =
    wanted_name binding o index s ++ names_from binding o (suc index) ss

abbrev pub object_names : Binding → Tabled → List KnownName
object_names binding o = names_from binding o 0 o.symbols

-- by object, and then in the order of its symbols
abbrev pub wanted_names : Binding → List Tabled → List KnownName
wanted_names binding os = flat_map (object_names binding) os

-- ---- the link

-- a name means the first global definition, and only where there is none the first weak one
-- (`candidates` of rv_link_laws)
abbrev pub defined_names : List Tabled → List KnownName
defined_names os = wanted_names Shared os ++ wanted_names Weak os

abbrev pub table_global : List KnownName → Global → KnownName
table_global defined g = global_by g (find (λ k. bytes_eq k.name g.name) defined)

abbrev pub table_names : List Tabled → List Global → Names
table_names os globals = record {
  labels = wanted_names Local os;
  globals = map (table_global (defined_names os)) globals;
}
