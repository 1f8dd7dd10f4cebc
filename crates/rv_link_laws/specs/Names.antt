-- What the names of objects mean across files (gABI, "Symbol Table"; GNU ld, "Symbols").

use Rattle.std.specs.Prelude.{ℕ, suc, ◌+◌, ◌-◌, ◌%◌, ◌^◌, ◌==◌, Bool, true, false, not, ◌&&◌, List, [], ◌∷◌, ◌++◌, filter, flat_map, map, Option, Some, None, is_some, option_and_then, slice_index_or, codes, bytes_eq, if◌then◌else◌}
use Rattle.std.specs.List.{find, slice_get}
use Rattle.std.specs.Option.{option_or}
use Rattle.rv_map_laws.specs.Globals.{global_address, shown, linker_symbols}
use Rattle.rv_map_laws.specs.Map.{Map, Global}
use Rattle.rv_object_laws.specs.declared.symbol.Binding.{Binding}
use Rattle.rv_object_laws.specs.declared.symbol.Definition.{Definition}
use Rattle.rv_object_laws.specs.declared.symbol.Definition.TheVariants as definitions
use Rattle.rv_object_laws.specs.Bindings.{is_shared, is_global, is_weak}
use Rattle.rv_object_laws.specs.Object.{Section, Symbol, Object}
use Rattle.rv_link_laws.specs.Moves.{moves, new_offset}
use Rattle.rv_link_laws.specs.Inputs.{Starts, goes_to_text}

-- ---- addresses

-- the address of an old offset in a section, by where that starts, modulo 2 ^ 64; none in a section
-- without one
abbrev pub offset_address : ℕ → ℕ → Option Section → Option ℕ
offset_address start offset None = None
offset_address start offset (Some s) =
    if s.loaded then Some ((start + new_offset (moves start s) offset) % 2 ^ 64) else None

-- the address of what an object defines, by where its sections start
abbrev pub defined_address : (ℕ → ℕ) → Object → Definition → Option ℕ
defined_address starts o definitions.Undefined = None
defined_address starts o (definitions.Absolute n) = Some n
defined_address starts o (definitions.InSection section offset) =
    offset_address (starts section) offset (slice_get o.sections section)
defined_address starts o (definitions.Skipped n) = None

abbrev pub is_defined : Definition → Bool
is_defined definitions.Undefined = false
is_defined (definitions.Absolute n) = true
is_defined (definitions.InSection section offset) = true
is_defined (definitions.Skipped n) = true

-- whether a symbol means its own object's definition, whatever others define: a number, or a place
-- that isn't weak
abbrev pub is_sure_by : Binding → Definition → Bool
is_sure_by binding definitions.Undefined = false
is_sure_by binding (definitions.Absolute n) = true
is_sure_by binding (definitions.InSection section offset) = not (is_weak binding)
is_sure_by binding (definitions.Skipped n) = not (is_weak binding)

abbrev pub is_sure : Symbol → Bool
is_sure s = is_sure_by s.binding s.definition

-- ---- definitions for all files

-- one of them: its file, from 1, its object, its index among the symbols there, and the symbol
pub record Export : Type 0 where
  pub file : ℕ
  pub object : Object
  pub index : ℕ
  pub symbol : Symbol

abbrev pub is_export : (Binding → Bool) → Symbol → Bool
is_export test s = test s.binding && is_defined s.definition

-- of symbols of a file from an index on
abbrev pub exports_in : (Binding → Bool) → ℕ → Object → ℕ → List Symbol → List Export
exports_in test file o index [] = []
exports_in test file o index (s ∷ ss) =
    let rest = exports_in test file o (suc index) ss in
    if is_export test s
    then record { file = file; object = o; index = index; symbol = s } ∷ rest else rest

-- of files from a number on
abbrev pub exports_from : (Binding → Bool) → ℕ → List Object → List Export
exports_from test file [] = []
exports_from test file (o ∷ os) =
    exports_in test file o 0 o.symbols ++ exports_from test (suc file) os

-- those of a binding, by file and then in the order of the symbols
abbrev pub exports_where : (Binding → Bool) → List Object → List Export
exports_where test os = exports_from test 1 os

abbrev pub names_of : List Export → List (List ℕ)
names_of es = map (λ e. e.symbol.name) es

-- a name means the first of these that has it: a global definition, and only where it has none the
-- first weak one
abbrev pub candidates : List Object → List Export
candidates os = exports_where is_global os ++ exports_where is_weak os

abbrev pub chosen : List Object → List ℕ → Option Export
chosen os name = find (λ e. bytes_eq e.symbol.name name) (candidates os)

abbrev pub is_this : Export → Option Export → Bool
is_this e None = false
is_this e (Some f) = (e.file == f.file) && (e.index == f.index)

abbrev pub is_chosen : List Object → Export → Bool
is_chosen os e = is_this e (chosen os e.symbol.name)

-- those that names mean, by file and then in the order of the symbols
abbrev pub chosen_exports : List Object → List Export
chosen_exports os = filter (is_chosen os) (exports_where is_shared os)

-- the names of all global definitions
abbrev pub global_names : List Object → List (List ℕ)
global_names os = names_of (exports_where is_global os)

-- ---- what a map shows

abbrev pub export_address : Starts → Export → Option ℕ
export_address starts e = defined_address (starts e.file) e.object e.symbol.definition

-- the definitions that names mean, with their addresses
abbrev pub globals_of : Starts → List Object → List Global
globals_of starts os =
    flat_map (λ e. shown e.symbol.name (export_address starts e)) (chosen_exports os)

-- the linker's symbols whose name no object defines
abbrev pub shown_linker_symbols : List Object → Map → List Global
shown_linker_symbols os m =
    filter (λ g. not (is_some (chosen os g.name))) (linker_symbols m)

-- ---- what a symbol means

-- a name that the map doesn't show is 0 where its symbol is weak and no object defines it
abbrev pub unshown_address : List Object → Symbol → Option ℕ
unshown_address os s =
    if is_weak s.binding && not (is_some (chosen os s.name)) then Some 0 else None

-- the addresses of symbols that their own objects don't surely define: what the map shows under
-- their names
abbrev pub Outer : Type 0
Outer = Symbol → Option ℕ

abbrev pub outer_address : List Object → List Global → Outer
outer_address os globals s =
    option_or (global_address globals s.name) (unshown_address os s)

-- a symbol means what its own object surely defines, else what others do
abbrev pub symbol_address : Outer → (ℕ → ℕ) → Object → Symbol → Option ℕ
symbol_address outer starts o s =
    if is_sure s then defined_address starts o s.definition else outer s

-- ---- the entry

abbrev pub is_in_text : Option Section → Bool
is_in_text None = false
is_in_text (Some s) = goes_to_text s

-- an even place of a section of text, by its offset in the object
abbrev pub can_begin : Object → Definition → Bool
can_begin o (definitions.InSection section offset) =
    is_in_text (slice_get o.sections section) && (offset % 2 == 0)
can_begin o definitions.Undefined = false
can_begin o (definitions.Absolute n) = false
can_begin o (definitions.Skipped n) = false

-- what the name `_start` means, if it is such a place
abbrev pub begins_run : Export → Bool
begins_run e = can_begin e.object e.symbol.definition

abbrev pub run_start : Starts → Export → Option ℕ
run_start starts e = if begins_run e then export_address starts e else None

abbrev pub entry_of : Starts → List Object → Option ℕ
entry_of starts os = option_and_then (run_start starts) (chosen os (codes "_start"))

-- ---- where a symbol stands

-- the file of a place, its section there, and its old offset
pub record Place : Type 0 where
  pub file : ℕ
  pub section : ℕ
  pub offset : ℕ

abbrev pub place_in : ℕ → Definition → Option Place
place_in file (definitions.InSection section offset) =
    Some (record { file = file; section = section; offset = offset })
place_in file definitions.Undefined = None
place_in file (definitions.Absolute n) = None
place_in file (definitions.Skipped n) = None

-- the place that a name means; none where it is a number, the linker's, or 0
abbrev pub shared_place : List Object → List ℕ → Option Place
shared_place os name =
    option_and_then (λ e. place_in e.file e.symbol.definition) (chosen os name)

abbrev pub symbol_place : List Object → ℕ → Symbol → Option Place
symbol_place os file s =
    if is_sure s then place_in file s.definition else shared_place os s.name

abbrev pub no_object : Object
no_object = record { sections = []; symbols = []; rows = []; rvc = false }

-- the object of a file, from 1
abbrev pub object_at : List Object → ℕ → Object
object_at os file = slice_index_or os (file - 1) no_object
