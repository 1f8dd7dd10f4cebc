-- The relocations of a section lead where the statements of its source do.

use Rattle.std.proofs.Common.{◌≡◌, ℕ, suc, ◌+◌, Bool, true, false, ◌==◌, refl, ap, sym, ◌∙◌, List, [], ◌∷◌, map, length, Option, Some, None}
use Rattle.std.specs.Prelude.{◌||◌, ◌&&◌, flat_map, option_map, option_and_then, if◌then◌else◌}
use Rattle.std.specs.List.{AllByRecursion, list_any, slice_get}
use Rattle.std.proofs.lemmas.Bool.{eqb-true}
use Rattle.std.proofs.lemmas.List.Folds.{list_any-append}
use Rattle.rv_list_laws.proofs.EachLemmas.{each_split}
use Rattle.rv_map_laws.specs.declared.map.SectionId.{SectionId}
use Rattle.rv_expression_laws.specs.Expression.{Primary, Here}
use Rattle.rv_statement_laws.specs.declared.mnemonic.Mnemonic.{Mnemonic}
use Rattle.rv_statement_laws.specs.Statement.{Instruction, Statement, Operand}
use Rattle.rv_unit_laws.specs.Sections.{Section as SourceSection}
use Rattle.rv_unit_laws.specs.Tables.{Tables, tables, opened_of, sure_definition}
use Rattle.rv_source_laws.specs.Program.{Program}
use Rattle.rv_source_laws.specs.Shortened.{aim_by}
use Rattle.rv_source_laws.specs.Collected.{home_at, is_in, statement_refers}
use Rattle.rv_object_laws.specs.Object.{Symbol, Object}
use Rattle.rv_link_laws.specs.Inputs.{InputSection}
use Rattle.rv_link_laws.specs.Names.{symbol_place}
use Rattle.rv_link_laws.specs.Collects.{lies_in, leads_to}
use Rattle.rv_assemble_laws.specs.Templates.{Open as Field, template_fields}
use Rattle.rv_assemble_laws.specs.LaidStatements.{LaidStatement, LaidPart, expression_value, part_bytes, templates, parts_of, parts, laid_in, HasSize}
use Rattle.rv_assemble_laws.specs.Symbols.{SymbolUse, use_of, StandsFor}
use Rattle.rv_assemble_laws.specs.IsObjectOf.{relocation_at, relocations_from, IsNumbered, ArePartsNumbered, IsSectionOf, IsObjectOf}
use Rattle.rv_sources_link_theorems.proofs.collected.HereLemmas.{laid_home, IsHere}
use Rattle.rv_sources_link_theorems.proofs.collected.MeantLemmas.{place_home, IsFirst, firsts}
use Rattle.rv_sources_link_theorems.proofs.collected.BeginsLemmas.{lies_home}
use Rattle.rv_sources_link_theorems.proofs.collected.NamedLemmas.{names}
use Rattle.rv_sources_link_theorems.proofs.collected.EdgesLemmas.{test, in_part, parts_are, statement_is}
use Rattle.rv_sources_link_theorems.proofs.statements.SettledLemmas.{IsSettled, settled}
use Rattle.rv_sources_link_theorems.proofs.statements.StatementsLemmas.{renumbered}

-- the symbols of a file's relocations stand in the sections of what its statements mean
abbrev pub AreMeant : Program → List Object → (f : ℕ) (ss : List Statement) (o : Object) → IsObjectOf ss o → Type 0
AreMeant p os f ss o is =
    (n : ℕ) (q : Primary) (y : Option Symbol) → StandsFor (tables ss) is.laid n q y
    → place_home (option_and_then (symbol_place os f) y) ≡ option_and_then (home_at p.statements) (aim_by p f q (sure_definition (tables ss) n q))

module _ (p : Program) (os : List Object) (T : SectionId) (f : ℕ) (ss : List Statement) (o : Object) (is : IsObjectOf ss o) (here : IsHere p f ss o is) (meant : AreMeant p os f ss o is) where
  abbrev t : Tables
  t = tables ss

  abbrev N : SymbolUse → Type 0
  N = IsNumbered t is.laid is.number o.symbols

  abbrev U : ℕ → Option Primary → Bool
  U n q = names p T f n q

  module _ (i : InputSection) (file_is : i.file ≡ f) (object_is : i.object ≡ o) where
    named : (n : ℕ) (s : Option Primary) → AllByRecursion N (use_of n s)
        → lies_in T (option_and_then (λ index. option_and_then (symbol_place os f) (slice_get o.symbols index)) (option_map (is.number n) s)) ≡ U n s
    named n None h = refl
    named n (Some q) (h, hs) =
        lies_home T (option_and_then (symbol_place os f) (slice_get o.symbols (is.number n q)))
        ∙ ap (is_in T) (meant n q (slice_get o.symbols (is.number n q)) h)
        ∙ ap (λ t. is_in T (option_and_then (home_at p.statements) (aim_by p f q (sure_definition t n q)))) (sym here.tables_are)

    one_leads : (place : ℕ) (x : Field) → AllByRecursion N (use_of x.ordinal x.symbol) → leads_to os T i (relocation_at is.number place x) ≡ U x.ordinal x.symbol
    one_leads place x h =
        ap (λ m. lies_in T (option_and_then (λ index. option_and_then (symbol_place os m) (slice_get i.object.symbols index)) (option_map (is.number x.ordinal) x.symbol))) file_is
        ∙ ap (λ (u : Object). lies_in T (option_and_then (λ index. option_and_then (symbol_place os f) (slice_get u.symbols index)) (option_map (is.number x.ordinal) x.symbol))) object_is
        ∙ named x.ordinal x.symbol h

    fields_lead : (place : ℕ) (xs : List Field) → AllByRecursion N (flat_map (λ x. use_of x.ordinal x.symbol) xs)
        → list_any (leads_to os T i) (map (relocation_at is.number place) xs) ≡ list_any (test p T f) xs
    fields_lead place [] h = refl
    fields_lead place (x ∷ xs) h =
        let both = each_split N (use_of x.ordinal x.symbol) (flat_map (λ x. use_of x.ordinal x.symbol) xs) h in
        ap (λ b. b || list_any (leads_to os T i) (map (relocation_at is.number place) xs)) (one_leads place x both.0)
        ∙ ap (λ b. U x.ordinal x.symbol || b) (fields_lead place xs both.1)

    parts_lead : (offset : ℕ) (ps : List LaidPart) → ArePartsNumbered t is.laid is.number o.symbols ps
        → list_any (leads_to os T i) (relocations_from is.number offset ps) ≡ list_any (in_part p T f) ps
    parts_lead offset [] h = refl
    parts_lead offset (q ∷ ps) (h, hs) =
        let own = map (relocation_at is.number offset) (template_fields q.ordinal q.template) in
        list_any-append (leads_to os T i) own (relocations_from is.number (offset + length (part_bytes q)) ps)
        ∙ ap (λ b. b || list_any (leads_to os T i) (relocations_from is.number (offset + length (part_bytes q)) ps)) (fields_lead offset (template_fields q.ordinal q.template) h)
        ∙ ap (λ b. in_part p T f q || b) (parts_lead (offset + length (part_bytes q)) ps hs)

  -- ---- statements

  -- what a statement refers to
  abbrev pub refers_by : LaidStatement → Bool
  refers_by z = statement_refers p T (renumbered f z.located) z.located.kind

  abbrev IsKnown : LaidStatement → Type 0
  IsKnown z = IsFirst is.laid z × ((m : Mnemonic) (os : List Operand) → z.located.kind ≡ Instruction m os → z.located.placed ≡ true)

  module _ (j : ℕ) (apart : ((f == T.file) && (suc j == T.section)) ≡ false) (multiple : ℕ) where
    not_self : (z : LaidStatement) → z.located.section ≡ j → IsFirst is.laid z → U z.located.ordinal (Some Here) ≡ false
    not_self z e found =
        ap (is_in T) (here.found z.located.ordinal ∙ ap (option_map (laid_home f)) found) ∙ ap (λ m. (f == T.file) && (suc m == T.section)) e ∙ apart

    laid_lead : (zs : List LaidStatement) → AllByRecursion (λ z. z.located.section ≡ j) zs → AllByRecursion IsKnown zs
        → AllByRecursion (λ z. z.located.placed ≡ true → HasSize (expression_value t z.located) z multiple z.located.kind) zs
        → list_any (in_part p T f) (parts t zs) ≡ list_any refers_by zs
    laid_lead [] e k h = refl
    laid_lead (z ∷ zs) (e, es) (k, ks) (h, hs) =
        list_any-append (in_part p T f) (parts_of t z) (parts t zs)
        ∙ ap (λ b. b || list_any (in_part p T f) (parts t zs))
        (parts_are p T f z.located.ordinal (templates t z z.located.kind)
        ∙ statement_is p T f z multiple (not_self z e k.0) t here.tables_are (λ m ops is'. h (k.1 m ops is')))
        ∙ ap (λ b. refers_by z || b) (laid_lead zs es ks hs)

  in_section : (j : ℕ) (zs : List LaidStatement) → AllByRecursion IsKnown zs → AllByRecursion (λ z. z.located.section ≡ j) (laid_in j zs) × AllByRecursion IsKnown (laid_in j zs)
  in_section j [] h = (tt, tt)
  in_section j (z ∷ zs) (h, hs) = go (z.located.section == j) refl (in_section j zs hs)
    where
      go : (b : Bool) → (z.located.section == j) ≡ b → AllByRecursion (λ z. z.located.section ≡ j) (laid_in j zs) × AllByRecursion IsKnown (laid_in j zs)
          → AllByRecursion (λ z. z.located.section ≡ j) (if b then z ∷ laid_in j zs else laid_in j zs) × AllByRecursion IsKnown (if b then z ∷ laid_in j zs else laid_in j zs)
      go true e (k, ks) = ((eqb-true z.located.section j e, k), (h, ks))
      go false e k = k

  known : (zs : List LaidStatement) → AllByRecursion (IsFirst is.laid) zs → AllByRecursion (IsSettled (opened_of (tables ss)).sections) zs → AllByRecursion IsKnown zs
  known [] h k = tt
  known (z ∷ zs) (h, hs) (k, ks) = ((h, k.instructed), known zs hs ks)

  -- a section with an address refers as its statements do, to all sections but itself
  pub section_leads : (i : InputSection) → i.file ≡ f → i.object ≡ o → (j : ℕ) (s : SourceSection) → IsSectionOf t is.laid is.number o.symbols j s (laid_in j is.laid) i.section
      → s.loaded ≡ true → ((f == T.file) && (suc j == T.section)) ≡ false
      → list_any (leads_to os T i) i.section.relocations ≡ list_any refers_by (laid_in j is.laid)
  section_leads i file_is object_is j s h loaded apart =
      let zs = in_section j is.laid (known is.laid (firsts ss o is) (settled ss is.laid is.good is.located)) in
      ap (list_any (leads_to os T i)) h.relocations
      ∙ ap (λ b. list_any (leads_to os T i) (if b then relocations_from is.number 0 (parts t (laid_in j is.laid)) else [])) loaded
      ∙ parts_lead i file_is object_is 0 (parts t (laid_in j is.laid)) (h.numbered loaded)
      ∙ laid_lead j apart i.section.alignment (laid_in j is.laid) zs.0 zs.1 h.sizes
