-- The names of a link: what each of its objects names for itself alone, and what the map names, with
-- the addresses that the map has for the statements there, and with the types and the sizes that
-- the sources' directives say (gABI, "Symbol Table"; GNU as, ".type", ".size").

use Rattle.std.specs.Prelude.{ℕ, ◌+◌, ◌-◌, ◌^◌, suc, min, ◌==◌, nat_lt, Bool, true, false, not, ◌&&◌, List, [], ◌∷◌, ◌++◌, take, map, reverse, filter, flat_map, codes, bytes_eq, Option, Some, None, option_and_then, option_map, if◌then◌else◌}
use Rattle.std.specs.List.{find}
use Rattle.rv_map_laws.specs.declared.map.Region.{Region}
use Rattle.rv_map_laws.specs.declared.map.Row.{Row as MapRow}
use Rattle.rv_map_laws.specs.Map.{Global}
use Rattle.rv_map_laws.specs.Name.{is_name}
use Rattle.rv_object_laws.specs.declared.row.Row.{Row}
use Rattle.rv_object_laws.specs.declared.symbol.Definition.{Definition}
use Rattle.rv_object_laws.specs.declared.symbol.Definition.TheVariants.{Undefined, Absolute, InSection, Skipped}
use Rattle.rv_object_laws.specs.Bindings.{is_shared}
use Rattle.rv_object_laws.specs.Object.{Object, Symbol}
use Rattle.rv_debug_laws.specs.declared.mark.NameSaid.{NameSaid}
use Rattle.rv_debug_laws.specs.declared.mark.Said.{Said}
use Rattle.rv_debug_laws.specs.declared.mark.Said.TheVariants.{Typed, Sized}
use Rattle.rv_debug_laws.specs.declared.mark.SaidSize.{SaidSize}
use Rattle.rv_debug_laws.specs.declared.mark.SaidSize.TheVariants.{NoSize, UpTo, Bytes}
use Rattle.rv_debug_laws.specs.declared.mark.SymbolType.TheVariants.{NoType}
use Rattle.rv_debug_laws.specs.Symbols.{KnownName, Names}

-- ---- what directives say

-- a directive of a source: the name, and what is said of it
pub record Mark : Type 0 where
  pub name : List ℕ
  pub said : Said

abbrev pub nothing_said : NameSaid
nothing_said = record { kind = NoType; size = NoSize }

abbrev pub said_behind : NameSaid → Said → NameSaid
said_behind before (Typed kind) = record { kind = kind; size = before.size }
said_behind before (Sized size) = record { kind = before.kind; size = size }

-- what directives say of a name, one after another: the last of each sort holds
abbrev pub said_from : (name : List ℕ) → NameSaid → List Mark → NameSaid
said_from name before [] = before
said_from name before (m ∷ ms) =
    said_from name (if bytes_eq m.name name then said_behind before m.said else before) ms

abbrev pub said_of : List Mark → (name : List ℕ) → NameSaid
said_of ms name = said_from name nothing_said ms

-- an object, and what the directives of its source say
pub record Described : Type 0 where
  pub object : Object
  pub marks : List Mark

-- ---- names

-- a name that people read: tools begin those that they make up with .L
abbrev pub is_label_name : List ℕ → Bool
is_label_name name = is_name name && not (bytes_eq (take 2 name) (codes ".L"))

-- ---- addresses

-- a row of a map for the statement of this ordinal in this file
abbrev pub is_row_of : (file ordinal : ℕ) → MapRow → Bool
is_row_of file ordinal row = (row.file == file) && (row.ordinal == ordinal)

-- from the first byte of a row to the address behind its last one
abbrev pub row_span : MapRow → Region
row_span row =
    record { start = row.address; end = min (row.address + row.bytes) (2 ^ 64 - 1) }

-- of the only row; of several it is not known which one is meant
abbrev pub only_span : List MapRow → Option Region
only_span [] = None
only_span (row ∷ []) = Some (row_span row)
only_span (row ∷ other ∷ rows) = None

-- a statement of which the map has no row is in a section that was dropped
abbrev pub statement_span : List MapRow → (file ordinal : ℕ) → Option Region
statement_span known file ordinal = only_span (filter (is_row_of file ordinal) known)

abbrev pub stands_at : (section offset : ℕ) → Row → Bool
stands_at section offset row = (row.section == section) && (row.offset == offset)

-- the last statement at a place: those before it there have no bytes, so all have one address
abbrev pub last_at : (section offset : ℕ) → List Row → Option Row
last_at section offset rows = find (stands_at section offset) (reverse rows)

-- of what a symbol is, in the file of this number with these rows
abbrev pub definition_address : List MapRow → (file : ℕ) → List Row → Definition → Option ℕ
definition_address known file rows (InSection section offset) =
    option_and_then (λ row. option_map (λ span. span.start) (statement_span known file row.ordinal))
    (last_at section offset rows)
definition_address known file rows Undefined = None
definition_address known file rows (Absolute n) = None
definition_address known file rows (Skipped n) = None

-- ---- sizes

abbrev pub stands_before : (section ordinal : ℕ) → Row → Bool
stands_before section ordinal row = (row.section == section) && nat_lt row.ordinal ordinal

-- the last statement of a section in front of the one of this ordinal
abbrev pub last_before : (section ordinal : ℕ) → List Row → Option Row
last_before section ordinal rows = find (stands_before section ordinal) (reverse rows)

-- the address behind it, which is that of the place in the section where the other one stands
abbrev pub end_before : List MapRow → (file : ℕ) → List Row → (section ordinal : ℕ) → Option ℕ
end_before known file rows section ordinal =
    option_and_then (λ row. option_map (λ span. span.end) (statement_span known file row.ordinal))
    (last_before section ordinal rows)

abbrev pub size_to : (address : ℕ) → (end : Option ℕ) → ℕ
size_to address None = 0
size_to address (Some end) = end - address

-- the size of what stands at an address, in this section of the file
abbrev pub section_size : List MapRow → (file : ℕ) → List Row → (section address : ℕ) → SaidSize → ℕ
section_size known file rows section address NoSize = 0
section_size known file rows section address (UpTo ordinal) =
    size_to address (end_before known file rows section ordinal)
section_size known file rows section address (Bytes size) = size

abbrev pub size_of : List MapRow → (file : ℕ) → List Row → Definition → (address : ℕ) → SaidSize → ℕ
size_of known file rows (InSection section offset) address said =
    section_size known file rows section address said
size_of known file rows Undefined address said = 0
size_of known file rows (Absolute n) address said = 0
size_of known file rows (Skipped n) address said = 0

-- ---- the names of objects

abbrev pub is_own_label : Symbol → Bool
is_own_label s = not (is_shared s.binding) && is_label_name s.name

-- those that all files can mean, or else the labels
abbrev pub is_asked : (shared : Bool) → Symbol → Bool
is_asked true s = is_shared s.binding
is_asked false s = is_own_label s

-- a symbol with its address, if it has one
abbrev pub known_symbol : List MapRow → (file : ℕ) → List Row → Symbol → NameSaid →
    (address : Option ℕ) → Option KnownName
known_symbol known file rows s said None = None
known_symbol known file rows s said (Some address) = Some (record {
  name = s.name;
  address = address;
  kind = said.kind;
  size = size_of known file rows s.definition address said.size;
})

abbrev pub one_of : {X : Type 0} → Option X → List X
one_of None = []
one_of (Some x) = x ∷ []

-- what is known of a symbol
abbrev pub symbol_name : List MapRow → (file : ℕ) → List Row → List Mark → Symbol → Option KnownName
symbol_name known file rows ms s =
    known_symbol known file rows s (said_of ms s.name)
    (definition_address known file rows s.definition)

abbrev pub symbol_names : (shared : Bool) → List MapRow → (file : ℕ) → List Row → List Mark →
    Symbol → List KnownName
symbol_names shared known file rows ms s =
    if is_asked shared s then one_of (symbol_name known file rows ms s) else []

-- those of an object, in the order of its symbols
abbrev pub object_names : (shared : Bool) → List MapRow → (file : ℕ) → Described → List KnownName
object_names shared known file d =
    flat_map (symbol_names shared known file d.object.rows d.marks) d.object.symbols

-- those of objects, the first of which is the file of this number
abbrev pub names_from : (shared : Bool) → List MapRow → (file : ℕ) → List Described → List KnownName
names_from shared known file [] = []
names_from shared known file (d ∷ ds) =
    object_names shared known file d ++ names_from shared known (suc file) ds

-- ---- the names of the map

abbrev pub plain_global : Global → KnownName
plain_global g = record { name = g.name; address = g.address; kind = NoType; size = 0 }

-- what is known of a global by the name that an object has for it, if that stands there
abbrev pub global_by : Global → Option KnownName → KnownName
global_by g None = plain_global g
global_by g (Some k) =
    if k.address == g.address
    then record { name = g.name; address = g.address; kind = k.kind; size = k.size }
    else plain_global g

-- the last of a name
abbrev pub last_named : List KnownName → (name : List ℕ) → Option KnownName
last_named ks name = find (λ k. bytes_eq k.name name) (reverse ks)

abbrev pub known_global : List KnownName → Global → KnownName
known_global ks g = global_by g (last_named ks g.name)

-- ---- all of them

-- those of the objects of a link whose map has these rows and globals
abbrev pub link_names : List MapRow → List Global → List Described → Names
link_names known globals ds = record {
  labels = names_from false known 1 ds;
  globals = map (known_global (names_from true known 1 ds)) globals;
}
