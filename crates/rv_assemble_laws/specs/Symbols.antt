-- The symbols of an object, in their order (gABI, "Symbol Table"; GNU as, "Symbols"): local ones,
-- those that the source makes global or weak, and those that it leaves undefined. A symbol without
-- a name is placed at the first statement that a reference means at its section and offset, before
-- that statement's own label; there is one for each place.

use Rattle.std.specs.Prelude.{◌≡◌, ℕ, Bool, true, false, not, ◌&&◌, ◌==◌, List, [], ◌∷◌, ◌++◌, filter, flat_map, map, Option, Some, None, if◌then◌else◌, bytes_eq}
use Rattle.std.specs.List.{find, list_any}
use Rattle.rv_map_laws.specs.Globals.{is_one_of}
use Rattle.rv_expression_laws.specs.Expression.{Primary, Symbol as Named, Literal, Here, Reference}
use Rattle.rv_expression_laws.specs.Values.{Known, InSection as InData, Open as OpenAddress, Refused, add}
use Rattle.rv_statement_laws.specs.Statement.{StatementKind, Directs, Sets}
use Rattle.rv_statement_laws.specs.declared.directive.Binding.{Binding as SourceBinding}
use Rattle.rv_statement_laws.specs.declared.directive.Binding.TheVariants as source
use Rattle.rv_unit_laws.specs.Bindings.{is_shared}
use Rattle.rv_unit_laws.specs.Tables.{Tables, Definition, Assignment, definition, gives_way, assigned_ever}
use Rattle.rv_source_laws.specs.Exports.{names_where}
use Rattle.rv_object_laws.specs.Bindings.{is_weak}
use Rattle.rv_object_laws.specs.declared.symbol.Binding.{Binding}
use Rattle.rv_object_laws.specs.declared.symbol.Binding.TheVariants.{Local, Global, Weak}
use Rattle.rv_object_laws.specs.declared.symbol.Definition.{Definition as Defined}
use Rattle.rv_object_laws.specs.declared.symbol.Definition.TheVariants.{Undefined, Absolute, InSection, Skipped}
use Rattle.rv_object_laws.specs.Object.{Symbol}
use Rattle.rv_assemble_laws.specs.Templates.{template_fields}
use Rattle.rv_assemble_laws.specs.LaidStatements.{LaidStatement, LaidPart, parts_of}

-- ---- definitions

abbrev pub laid_at : List LaidStatement → ℕ → Option LaidStatement
laid_at laid ordinal = find (λ s. s.located.ordinal == ordinal) laid

-- so many bytes after the start of a statement
abbrev pub after_statement : LaidStatement → ℕ → Defined
after_statement s plus = InSection s.located.section (add s.offset plus)

abbrev pub after_found : Option LaidStatement → ℕ → Defined
after_found None plus = Skipped 0
after_found (Some s) plus = after_statement s plus

-- a number, or a place that `.set` gives
abbrev pub assigned_definition : List LaidStatement → Option Assignment → Defined
assigned_definition laid None = Skipped 0
assigned_definition laid (Some a) = elim a.meaning [
  | Known n ↦ Absolute n
  | InData section offset ↦ after_found (laid_at laid a.ordinal) a.plus
  | OpenAddress ↦ Skipped 0
  | Refused code ↦ Skipped 0
]

-- what a statement defines: a label its own place, `.set` what the name has last
abbrev pub statement_definition : Tables → List LaidStatement → LaidStatement → StatementKind →
    Defined
statement_definition t laid s (Directs (Sets name e)) =
    assigned_definition laid (assigned_ever t.assignments name)
statement_definition t laid s _ = InSection s.located.section s.offset

abbrev pub local_symbol : List ℕ → Defined → Symbol
local_symbol name d = record { name = name; binding = Local; definition = d }

-- the binding in an object of what other files can mean; a name without a definition is theirs,
-- also where the source makes it local
abbrev pub outer_binding : SourceBinding → Binding
outer_binding source.Local = Global
outer_binding source.Global = Global
outer_binding source.Weak = Weak

abbrev pub shared_symbol : Tables → List ℕ → Defined → Symbol
shared_symbol t name d =
    record { name = name; binding = outer_binding (t.bindings name); definition = d }

-- ---- what relocations name

-- the symbols that the relocations of loaded sections name, with the ordinals of their statements,
-- in the source's order
pub record SymbolUse : Type 0 where
  pub ordinal : ℕ
  pub symbol : Primary

abbrev pub use_of : ℕ → Option Primary → List SymbolUse
use_of ordinal None = []
use_of ordinal (Some symbol) = record { ordinal = ordinal; symbol = symbol } ∷ []

abbrev pub references_in : LaidPart → List SymbolUse
references_in p =
    flat_map (λ f. use_of f.ordinal f.symbol) (template_fields p.ordinal p.template)

abbrev pub references_of : Tables → LaidStatement → List SymbolUse
references_of t s = if s.located.home.loaded then flat_map references_in (parts_of t s) else []

abbrev pub references : Tables → List LaidStatement → List SymbolUse
references t laid = flat_map (references_of t) laid

-- ---- local symbols

-- `.` and numeric references mean places without a name
abbrev pub is_unnamed : Primary → Bool
is_unnamed (Named name) = false
is_unnamed _ = true

abbrev pub is_defined_at : ℕ → Option Definition → Bool
is_defined_at ordinal None = false
is_defined_at ordinal (Some d) = d.ordinal == ordinal

-- whether a reference without a name means a statement
abbrev pub is_meant : Tables → List SymbolUse → LaidStatement → Bool
is_meant t rs s =
    list_any
    (λ r. is_unnamed r.symbol
    && is_defined_at s.located.ordinal (definition t r.ordinal r.symbol)) rs

abbrev pub are_together : LaidStatement → LaidStatement → Bool
are_together s q = (s.located.section == q.located.section) && (s.offset == q.offset)

-- a symbol without a name stands where a reference means a statement, one for each place
abbrev pub unnamed_symbols : Tables → List SymbolUse → List LaidStatement → LaidStatement →
    List Symbol
unnamed_symbols t rs before s =
    if is_meant t rs s && not (list_any (λ q. are_together s q && is_meant t rs q) before)
    then local_symbol [] (InSection s.located.section s.offset) ∷ []
    else []

-- constants of the source's own have no symbol
abbrev pub is_absolute : Symbol → Bool
is_absolute s = elim s.definition [
  | Absolute n ↦ true
  | InSection section offset ↦ false
  | Skipped n ↦ false
  | Undefined ↦ false
]

-- the names that a statement defines for its own file
abbrev pub named_symbols : Tables → List LaidStatement → LaidStatement → List Symbol
named_symbols t laid s =
    filter (λ x. not (is_absolute x))
    (map (λ name. local_symbol name (statement_definition t laid s s.located.kind))
    (names_where (λ b. not (is_shared b)) t s.located))

abbrev pub local_symbols : Tables → List LaidStatement → List LaidStatement → List LaidStatement →
    List Symbol
local_symbols t laid before [] = []
local_symbols t laid before (s ∷ rest) =
    unnamed_symbols t (references t laid) before s ++ (named_symbols t laid s
    ++ local_symbols t laid (before ++ s ∷ []) rest)

-- ---- global and weak symbols

-- the names that a statement defines for other files
abbrev pub exports_of : Tables → List LaidStatement → LaidStatement → List Symbol
exports_of t laid s =
    map (λ name. shared_symbol t name (statement_definition t laid s s.located.kind))
    (names_where is_shared t s.located)

abbrev pub exports : Tables → List LaidStatement → List Symbol
exports t laid = flat_map (exports_of t laid) laid

-- ---- undefined symbols

abbrev pub missing_name : Tables → ℕ → Primary → List (List ℕ)
missing_name t ordinal (Named name) = elim (definition t ordinal (Named name)) [
  | None ↦ name ∷ []
  | Some d ↦ []
]
missing_name t ordinal _ = []

-- each name that is not among those before
abbrev pub distinct_from : List (List ℕ) → List (List ℕ) → List (List ℕ)
distinct_from before [] = []
distinct_from before (name ∷ names) =
    if is_one_of before name
    then distinct_from before names else name ∷ distinct_from (name ∷ before) names

-- by first reference
abbrev pub undefined_symbols : Tables → List LaidStatement → List Symbol
undefined_symbols t laid =
    map (λ name. shared_symbol t name Undefined)
    (distinct_from [] (flat_map (λ r. missing_name t r.ordinal r.symbol) (references t laid)))

-- ---- all of them

abbrev pub symbols_of : Tables → List LaidStatement → List Symbol
symbols_of t laid =
    local_symbols t laid [] laid ++ (exports t laid ++ undefined_symbols t laid)

-- ---- what a symbol stands for

-- a symbol of a name has that name
abbrev pub IsNamed : Primary → Symbol → Type 0
IsNamed (Named name) x = x.name ≡ name
IsNamed (Literal n) x = ⊥
IsNamed Here x = x.name ≡ []
IsNamed (Reference digits forward) x = x.name ≡ []

-- a symbol of the file's own stands where the name's statement stands, which has a place
abbrev pub IsOwn : List LaidStatement → Definition → Symbol → Type 0
IsOwn laid d x =
    (s : LaidStatement) × (laid_at laid d.ordinal ≡ Some s) × (s.located.placed ≡ true)
    × (x.definition ≡ after_statement s d.plus)

-- what has no definition in the file is a name that the file leaves undefined
abbrev pub IsOuter : Primary → Symbol → Type 0
IsOuter (Named name) x = x.definition ≡ Undefined
IsOuter _ x = ⊥

abbrev pub IsDefinedBy : List LaidStatement → Primary → Option Definition → Symbol → Type 0
IsDefinedBy laid q (Some d) x = IsOwn laid d x
IsDefinedBy laid q None x = IsOuter q x

-- the symbol that a statement of this ordinal means by a name, `.` or a numeric reference:
-- it is weak where another file's definition may be meant
abbrev pub StandsFor : Tables → List LaidStatement → ℕ → Primary → Option Symbol → Type 0
StandsFor t laid ordinal q None = ⊥
StandsFor t laid ordinal q (Some x) =
    IsNamed q x × (is_weak x.binding ≡ gives_way t q)
    × IsDefinedBy laid q (definition t ordinal q) x

-- ---- what a symbol is asked

abbrev pub is_named : List ℕ → Symbol → Bool
is_named name x = bytes_eq x.name name

abbrev pub stands_in : ℕ → ℕ → Defined → Bool
stands_in section offset (InSection s o) = (s == section) && (o == offset)
stands_in section offset _ = false
