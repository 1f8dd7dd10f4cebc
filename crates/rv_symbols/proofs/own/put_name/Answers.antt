use Rattle.std.proofs.Common.{◌≡◌, ℕ, Bool, List, Some, slice_get, [], ◌∷◌, ◌++◌, map, sym, ap, ◌∙◌, subst, append-nil, rules, of_calls}
use Rattle.std.proofs.lemmas.List.{map-append}
use Rattle.rv_statement.specs.View.{statement_of}
use Rattle.rv_unit_laws.specs.Bindings.{is_shared}
use Rattle.rv_unit_laws.specs.Tables.{Tables}
use Rattle.rv_source_laws.specs.Exports.{defined_name}
use Rattle.rv_object_laws.specs.declared.symbol.Binding.{Binding}
use Rattle.rv_object_laws.specs.declared.symbol.Definition.{Definition as Defined}
use Rattle.rv_object_laws.specs.Object.{Symbol}
use Rattle.rv_object_types.specs.Parts.{symbol_of}
use Rattle.rv_assemble_laws.specs.LaidStatements.{LaidStatement}
use Rattle.rv_assemble_laws.specs.Symbols.{local_symbol, shared_symbol, statement_definition, named_symbols, exports_of}
use Rattle.rv_symbols.specs.Source.{optional_name, tables_of, IsSource}
use Rattle.rv_symbols.specs.Found.{is_number}
use Rattle.rv_symbols.proofs.StandsLemmas.{ordinal_is}
use Rattle.rv_symbols.proofs.NamingLemmas.{local_none, local_shared, local_number, local_one, shared_none, shared_local, shared_one, named_at, name_is_string}
use Rattle.rv_symbols.proofs.own.put_name.Goals.{After-defined, After-definition-definition}
use Rattle.rv_symbols.proofs.own.put_name.Goals as goal

module _ (c : After-defined) where
  abbrev t : Tables
  t = tables_of c.args.source.now

  -- whether other files can mean a name
  abbrev shares : List ℕ → Bool
  shares n = is_shared (t.bindings n)

  -- what the statement defines, and its name
  abbrev defines : List LaidStatement → LaidStatement → Defined
  defines laid s = statement_definition t laid s s.located.kind

  abbrev names : LaidStatement → List (List ℕ)
  names s = defined_name t s.located.ordinal s.located.kind

  named : (laid : List LaidStatement) (s : LaidStatement) → IsSource c.args.source.now laid → slice_get laid c.args.index ≡ Some s
      → (statement_of c.args.statement.now).kind ≡ s.located.kind → optional_name c.defined.result ≡ names s
  named laid s h at kind = named_at t _ c.args.index s (statement_of c.args.statement.now).kind (ordinal_is c.args.source.now laid h c.args.index s at) kind (c.defined.ensures.name laid h)

defined_as : (c : After-definition-definition) (laid : List LaidStatement) (s : LaidStatement) → IsSource c.args.source.now laid → slice_get laid c.args.index ≡ Some s
    → (statement_of c.args.statement.now).kind ≡ s.located.kind → c.definition-definition.result ≡ statement_definition (tables_of c.args.source.now) laid s s.located.kind
defined_as c laid s h at kind = c.definition-definition.ensures laid s h at ∙ ap (statement_definition (tables_of c.args.source.now) laid s) kind

pub returns-in_default-clause-symbols : goal.returns-in_default-clause-symbols
returns-in_default-clause-symbols c = λ laid s h at kind.
    let d = (goal.at.returns-in_default-clause-symbols c).After-defined in
    let old = map symbol_of c.args.symbols.now.items in
    sym (append-nil old) ∙ ap (λ l. old ++ l)
    (local_none (shares d) (defines d laid s) (names d s)
    (ap optional_name (sym c.in_default.is) ∙ named d laid s h at kind))

pub returns-in_default-clause-exported : goal.returns-in_default-clause-exported
returns-in_default-clause-exported c = λ laid s h at kind.
    let d = (goal.at.returns-in_default-clause-exported c).After-defined in
    let old = map symbol_of c.args.exported.now.items in
    sym (append-nil old) ∙ ap (λ l. old ++ l)
    (shared_none (t d) (shares d) (defines d laid s) (names d s)
    (ap optional_name (sym c.in_default.is) ∙ named d laid s h at kind))

pub returns-then-is_shared-clause-symbols : goal.returns-then-is_shared-clause-symbols
returns-then-is_shared-clause-symbols c = λ laid s h at kind.
    let d = (goal.at.returns-then-is_shared-clause-symbols c).After-defined in
    let old = map symbol_of c.args.symbols.now.items in
    sym (append-nil old) ∙ ap (λ l. old ++ l)
    (local_shared (shares d) (defines d laid s) (names d s) c.in-Some.name.now
    (ap optional_name (sym c.in-Some.is) ∙ named d laid s h at kind)
    (sym (c.is_shared.ensures laid h) ∙ c.if-is_shared.true))

pub returns-then-is_shared-clause-exported : goal.returns-then-is_shared-clause-exported
returns-then-is_shared-clause-exported c = λ laid s h at kind.
    let d = (goal.at.returns-then-is_shared-clause-exported c).After-defined in
    let is = defined_as (goal.at.returns-then-is_shared-clause-exported c).After-definition-definition laid s h at kind in
    let n = c.in-Some.name.now in
    let old = map symbol_of c.args.exported.now.items in
    let one : Binding → List Symbol = λ b. record { name = n; binding = b; definition = c.definition-definition.result } ∷ [] in
    ap (map symbol_of) c.in_ok-push.ensures.items ∙ map-append symbol_of c.args.exported.now.items _
    ∙ ap (λ b. old ++ one b) (c.outer_binding-binding.ensures.binding laid h)
    ∙ ap (λ l. old ++ l)
    (subst (λ e. shared_symbol (t d) n e ∷ [] ≡ exports_of (t d) laid s) (sym is)
    (shared_one (t d) (shares d) (defines d laid s) (names d s) n
    (ap optional_name (sym c.in-Some.is) ∙ named d laid s h at kind)
    (sym (c.is_shared.ensures laid h) ∙ c.if-is_shared.true)))

pub returns-then-is_number-clause-symbols : goal.returns-then-is_number-clause-symbols
returns-then-is_number-clause-symbols c = λ laid s h at kind.
    let d = (goal.at.returns-then-is_number-clause-symbols c).After-defined in
    let is = defined_as (goal.at.returns-then-is_number-clause-symbols c).After-definition-definition laid s h at kind in
    let old = map symbol_of c.args.symbols.now.items in
    sym (append-nil old) ∙ ap (λ l. old ++ l)
    (local_number (shares d) (defines d laid s) (names d s) c.in-Some.name.now
    (ap optional_name (sym c.in-Some.is) ∙ named d laid s h at kind)
    (sym (c.is_shared.ensures laid h) ∙ c.if-is_shared.false)
    (ap is_number (sym is) ∙ sym c.is_number.ensures ∙ c.if-is_number.true))

pub returns-then-is_number-clause-exported : goal.returns-then-is_number-clause-exported
returns-then-is_number-clause-exported c = λ laid s h at kind.
    let d = (goal.at.returns-then-is_number-clause-exported c).After-defined in
    let old = map symbol_of c.args.exported.now.items in
    sym (append-nil old) ∙ ap (λ l. old ++ l)
    (shared_local (t d) (shares d) (defines d laid s) (names d s) c.in-Some.name.now
    (ap optional_name (sym c.in-Some.is) ∙ named d laid s h at kind)
    (sym (c.is_shared.ensures laid h) ∙ c.if-is_shared.false))

pub returns-clause-symbols : goal.returns-clause-symbols
returns-clause-symbols c = λ laid s h at kind.
    let d = (goal.at.returns-clause-symbols c).After-defined in
    let is = defined_as (goal.at.returns-clause-symbols c).After-definition-definition laid s h at kind in
    let n = c.in-Some.name.now in
    let old = map symbol_of c.args.symbols.now.items in
    ap (map symbol_of) c.in_ok-push-2.ensures.items ∙ map-append symbol_of c.args.symbols.now.items _
    ∙ ap (λ l. old ++ l)
    (subst (λ e. local_symbol n e ∷ [] ≡ named_symbols (t d) laid s) (sym is)
    (local_one (shares d) (defines d laid s) (names d s) n
    (ap optional_name (sym c.in-Some.is) ∙ named d laid s h at kind)
    (sym (c.is_shared.ensures laid h) ∙ c.if-is_shared.false)
    (ap is_number (sym is) ∙ sym c.is_number.ensures ∙ c.if-is_number.false)))

pub returns-clause-exported : goal.returns-clause-exported
returns-clause-exported c = λ laid s h at kind.
    let d = (goal.at.returns-clause-exported c).After-defined in
    let old = map symbol_of c.args.exported.now.items in
    sym (append-nil old) ∙ ap (λ l. old ++ l)
    (shared_local (t d) (shares d) (defines d laid s) (names d s) c.in-Some.name.now
    (ap optional_name (sym c.in-Some.is) ∙ named d laid s h at kind)
    (sym (c.is_shared.ensures laid h) ∙ c.if-is_shared.false))

pub invariant_of-local : goal.invariant_of-local
invariant_of-local c = record { shown = name_is_string c.in-Some.name.now (c.in-Some.ensures.shown c.requires.shown); low = search (rules, of_calls) }
