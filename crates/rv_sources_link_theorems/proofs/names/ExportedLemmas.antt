-- The definitions of an object for other files are those that its source exports.

use Rattle.std.proofs.Common.{◌≡◌, ℕ, Bool, true, false, List, [], ◌∷◌, ◌++◌, refl, ap, ◌∙◌, map, Option, Some, None}
use Rattle.std.proofs.lemmas.List.{append-nil}
use Rattle.std.proofs.lemmas.List.Elements.{filter-append}
use Rattle.std.specs.Prelude.{◌&&◌, not, if◌then◌else◌, filter, flat_map}
use Rattle.std.specs.List.{list_any}
use Rattle.rv_list_laws.proofs.TruthLemmas.{and_false}
use Rattle.rv_expression_laws.specs.Values.{Meaning, Known, InSection as InData, Open as OpenAddress, Refused}
use Rattle.rv_statement_laws.specs.Statement.{StatementKind, Label, Numbered, Instruction, Directs, Statement, Enters, Sets}
use Rattle.rv_statement_laws.specs.declared.directive.Binding.{Binding as SourceBinding}
use Rattle.rv_statement_laws.specs.declared.directive.Binding.TheVariants.{Local, Global, Weak}
use Rattle.rv_unit_laws.specs.Bindings.{is_shared}
use Rattle.rv_unit_laws.specs.Tables.{Tables, Assignment, tables, assigned_ever}
use Rattle.rv_source_laws.specs.Exports.{names_where}
use Rattle.rv_object_laws.specs.declared.symbol.Definition.{Definition as Defined}
use Rattle.rv_object_laws.specs.declared.symbol.Definition.TheVariants.{Undefined, InSection}
use Rattle.rv_object_laws.specs.Object.{Symbol, Object}
use Rattle.rv_object_laws.specs.Bindings as symbols
use Rattle.rv_link_laws.specs.Names.{is_defined, is_export}
use Rattle.rv_assemble_laws.specs.LaidStatements.{LaidStatement}
use Rattle.rv_assemble_laws.specs.Symbols.{laid_at, after_found, assigned_definition, statement_definition, local_symbol, outer_binding, shared_symbol, references, unnamed_symbols, named_symbols, local_symbols, exports_of, exports, undefined_symbols, distinct_from, missing_name, is_absolute, is_meant, are_together}
use Rattle.rv_assemble_laws.specs.IsObjectOf.{IsObjectOf}

abbrev pub is_exported : Symbol → Bool
is_exported s = is_export symbols.is_shared s

-- the symbols that an object defines for other files
abbrev pub exported : Object → List Symbol
exported o = filter is_exported o.symbols

-- ---- which symbols are exported

none_local : (d : List ℕ → Defined) (test : Symbol → Bool) (names : List (List ℕ)) → filter is_exported (filter test (map (λ name. local_symbol name (d name)) names)) ≡ []
none_local d test [] = refl
none_local d test (name ∷ names) = go (test (local_symbol name (d name))) (none_local d test names)
  where
    go : (b : Bool) → filter is_exported (filter test (map (λ name. local_symbol name (d name)) names)) ≡ []
        → filter is_exported (if b then local_symbol name (d name) ∷ filter test (map (λ name. local_symbol name (d name)) names) else filter test (map (λ name. local_symbol name (d name)) names)) ≡ []
    go true ih = ih
    go false ih = ih

none_of : (xs ys : List Symbol) → filter is_exported xs ≡ [] → filter is_exported ys ≡ [] → filter is_exported (xs ++ ys) ≡ []
none_of xs ys e f = filter-append is_exported xs ys ∙ ap (λ l. l ++ filter is_exported ys) e ∙ f

none_unnamed : (b : Bool) (section offset : ℕ) → filter is_exported (if b then local_symbol [] (InSection section offset) ∷ [] else []) ≡ []
none_unnamed true section offset = refl
none_unnamed false section offset = refl

locals_none : (t : Tables) (laid before rest : List LaidStatement) → filter is_exported (local_symbols t laid before rest) ≡ []
locals_none t laid before [] = refl
locals_none t laid before (s ∷ rest) =
    none_of (unnamed_symbols t (references t laid) before s) (named_symbols t laid s ++ local_symbols t laid (before ++ s ∷ []) rest)
    (none_unnamed (is_meant t (references t laid) s && not (list_any (λ q. are_together s q && is_meant t (references t laid) q) before)) s.located.section s.offset)
    (none_of (named_symbols t laid s) (local_symbols t laid (before ++ s ∷ []) rest)
    (none_local (λ name. statement_definition t laid s s.located.kind) (λ x. not (is_absolute x)) (names_where (λ b. not (is_shared b)) t s.located))
    (locals_none t laid (before ++ s ∷ []) rest))

undefined_none : (t : Tables) (names : List (List ℕ)) → filter is_exported (map (λ name. shared_symbol t name Undefined) names) ≡ []
undefined_none t [] = refl
undefined_none t (name ∷ names) =
    let others = filter is_exported (map (λ name. shared_symbol t name Undefined) names) in
    ap (λ b. if b then shared_symbol t name Undefined ∷ others else others) (and_false (symbols.is_shared (outer_binding (t.bindings name)))) ∙ undefined_none t names

outer_shared : (b : SourceBinding) → symbols.is_shared (outer_binding b) ≡ true
outer_shared Local = refl
outer_shared Global = refl
outer_shared Weak = refl

all_kept : (t : Tables) (d : Defined) → is_defined d ≡ true → (names : List (List ℕ)) → filter is_exported (map (λ name. shared_symbol t name d) names) ≡ map (λ name. shared_symbol t name d) names
all_kept t d e [] = refl
all_kept t d e (name ∷ names) =
    let others = filter is_exported (map (λ name. shared_symbol t name d) names) in
    ap (λ b. if b && is_defined d then shared_symbol t name d ∷ others else others) (outer_shared (t.bindings name))
    ∙ ap (λ b. if b then shared_symbol t name d ∷ others else others) e
    ∙ ap (λ (l : List Symbol). shared_symbol t name d ∷ l) (all_kept t d e names)

found_defined : (o : Option LaidStatement) (plus : ℕ) → is_defined (after_found o plus) ≡ true
found_defined None plus = refl
found_defined (Some s) plus = refl

assigned_defined : (laid : List LaidStatement) (o : Option Assignment) → is_defined (assigned_definition laid o) ≡ true
assigned_defined laid None = refl
assigned_defined laid (Some a) = go a.meaning
  where
    go : (m : Meaning) → is_defined (assigned_definition laid (Some (record a { meaning = m }))) ≡ true
    go (Known n) = refl
    go (InData section offset) = found_defined (laid_at laid a.ordinal) a.plus
    go OpenAddress = refl
    go (Refused code) = refl

pub laid_defined : (t : Tables) (laid : List LaidStatement) (s : LaidStatement) (kind : StatementKind) → is_defined (statement_definition t laid s kind) ≡ true
laid_defined t laid s (Directs (Sets name e)) = assigned_defined laid (assigned_ever t.assignments name)
laid_defined t laid s (Directs (Enters section)) = refl
laid_defined t laid s (Directs _) = refl
laid_defined t laid s (Label name) = refl
laid_defined t laid s (Numbered number) = refl
laid_defined t laid s (Instruction mnemonic operands) = refl

exports_kept : (t : Tables) (laid rest : List LaidStatement) → filter is_exported (flat_map (exports_of t laid) rest) ≡ flat_map (exports_of t laid) rest
exports_kept t laid [] = refl
exports_kept t laid (s ∷ rest) =
    filter-append is_exported (exports_of t laid s) (flat_map (exports_of t laid) rest)
    ∙ ap (λ l. l ++ filter is_exported (flat_map (exports_of t laid) rest))
    (all_kept t (statement_definition t laid s s.located.kind) (laid_defined t laid s s.located.kind) (names_where is_shared t s.located))
    ∙ ap (λ l. exports_of t laid s ++ l) (exports_kept t laid rest)

pub exported_are : (ss : List Statement) (o : Object) (is : IsObjectOf ss o) → exported o ≡ exports (tables ss) is.laid
exported_are ss o is =
    let t = tables ss in
    let own = exports t is.laid in
    ap (filter is_exported) is.symbols
    ∙ filter-append is_exported (local_symbols t is.laid [] is.laid) (own ++ undefined_symbols t is.laid)
    ∙ ap (λ l. l ++ filter is_exported (own ++ undefined_symbols t is.laid)) (locals_none t is.laid [] is.laid)
    ∙ filter-append is_exported own (undefined_symbols t is.laid)
    ∙ ap (λ l. l ++ filter is_exported (undefined_symbols t is.laid)) (exports_kept t is.laid is.laid)
    ∙ ap (λ l. own ++ l) (undefined_none t (distinct_from [] (flat_map (λ r. missing_name t r.ordinal r.symbol) (references t is.laid))))
    ∙ append-nil own
