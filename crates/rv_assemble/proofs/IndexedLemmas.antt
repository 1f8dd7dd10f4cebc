-- Each relocation of a section names one of the symbols, and each symbol stands in one of the sections.

use Rattle.std.proofs.Common.{◌≡◌, ℕ, ◌+◌, ◌<◌, Bool, true, false, not, ◌&&◌, ◌==◌, nat_lt, List, [], ◌∷◌, ◌++◌, length, refl, ap, ◌∙◌, subst, map, Option, Some, None}
use Rattle.std.proofs.lemmas.Bool.{and_parts, lt-ltb}
use Rattle.std.proofs.lemmas.List.Folds.{list_all-append}
use Rattle.std.specs.Prelude.{if◌then◌else◌, filter, flat_map, option_map, slice_get}
use Rattle.std.specs.List.{AllByRecursion, list_all, list_any}
use Rattle.rv_list_laws.proofs.EachLemmas.{each_split}
use Rattle.std.proofs.lemmas.Option.{slice_get_within}
use Rattle.rv_expression_laws.specs.Expression.{Primary}
use Rattle.rv_expression_laws.specs.Values.{Meaning, Known, InSection as InData, Open as OpenAddress, Refused}
use Rattle.rv_statement_laws.specs.Statement.{StatementKind, Label, Numbered, Instruction, Directs, Sets}
use Rattle.rv_unit_laws.specs.Bindings.{is_shared}
use Rattle.rv_unit_laws.specs.Sections.{Section as SourceSection}
use Rattle.rv_unit_laws.specs.Tables.{Tables, Assignment, assigned_ever}
use Rattle.rv_source_laws.specs.Exports.{defined_name, names_where}
use Rattle.rv_object_laws.specs.declared.symbol.Definition.{Definition as Defined}
use Rattle.rv_object_laws.specs.declared.symbol.Definition.TheVariants.{Undefined, Absolute, InSection, Skipped}
use Rattle.rv_object_laws.specs.Object.{Relocation, Symbol}
use Rattle.rv_object_laws.specs.Valid.{is_below, is_defined_in}
use Rattle.rv_assemble_laws.specs.Templates.{Open, template_fields}
use Rattle.rv_assemble_laws.specs.LaidStatements.{LaidStatement, LaidPart, part_bytes}
use Rattle.rv_assemble_laws.specs.Symbols.{use_of, laid_at, after_statement, after_found, assigned_definition, statement_definition, local_symbol, shared_symbol, references, is_meant, are_together, unnamed_symbols, is_absolute, named_symbols, local_symbols, exports_of, exports, missing_name, distinct_from, undefined_symbols, symbols_of, StandsFor}
use Rattle.rv_assemble_laws.specs.IsObjectOf.{Numbering, relocation_at, relocations_from, IsNumbered, ArePartsNumbered}
use Rattle.rv_assemble.proofs.SettledLemmas.{IsSettled}

-- ---- relocations

module _ (t : Tables) (all : List LaidStatement) (number : Numbering) (symbols : List Symbol) where
  abbrev IsIndexed : Relocation → Bool
  IsIndexed r = is_below (length symbols) r.symbol

  stands : (ordinal : ℕ) (q : Primary) (n : ℕ) → StandsFor t all ordinal q (slice_get symbols n) → nat_lt n (length symbols) ≡ true
  stands ordinal q n h = go (slice_get symbols n) refl h
    where
      go : (found : Option Symbol) → slice_get symbols n ≡ found → StandsFor t all ordinal q found → nat_lt n (length symbols) ≡ true
      go None e h = absurd h
      go (Some x) e h = lt-ltb n (length symbols) (slice_get_within symbols n x e)

  open_indexed : (ordinal : ℕ) (q : Option Primary) → AllByRecursion (IsNumbered t all number symbols) (use_of ordinal q) → is_below (length symbols) (option_map (number ordinal) q) ≡ true
  open_indexed ordinal None h = refl
  open_indexed ordinal (Some q) h = stands ordinal q (number ordinal q) h.0

  opens_indexed : (place : ℕ) (fs : List Open) → AllByRecursion (IsNumbered t all number symbols) (flat_map (λ f. use_of f.ordinal f.symbol) fs)
      → list_all IsIndexed (map (relocation_at number place) fs) ≡ true
  opens_indexed place [] h = refl
  opens_indexed place (f ∷ fs) h =
      let both = each_split (IsNumbered t all number symbols) (use_of f.ordinal f.symbol) (flat_map (λ f. use_of f.ordinal f.symbol) fs) h in
      ap (λ b. b && list_all IsIndexed (map (relocation_at number place) fs)) (open_indexed f.ordinal f.symbol both.0) ∙ opens_indexed place fs both.1

  pub parts_indexed : (offset : ℕ) (ps : List LaidPart) → ArePartsNumbered t all number symbols ps → list_all IsIndexed (relocations_from number offset ps) ≡ true
  parts_indexed offset [] h = refl
  parts_indexed offset (p ∷ ps) (h, hs) =
      list_all-append IsIndexed (map (relocation_at number offset) (template_fields p.ordinal p.template)) (relocations_from number (offset + length (part_bytes p)) ps)
      ∙ ap (λ b. b && list_all IsIndexed (relocations_from number (offset + length (part_bytes p)) ps)) (opens_indexed offset (template_fields p.ordinal p.template) h)
      ∙ parts_indexed (offset + length (part_bytes p)) ps hs

-- ---- symbols

module _ (t : Tables) (sections : List SourceSection) (count : ℕ) (counted : length sections ≡ count) where
  abbrev IsIn : Defined → Type 0
  IsIn d = is_defined_in count d ≡ true

  abbrev Stands : Symbol → Bool
  Stands x = is_defined_in count x.definition

  abbrev AllStand : List Symbol → Type 0
  AllStand xs = list_all Stands xs ≡ true

  at_statement : (s : LaidStatement) → IsSettled sections s → (plus : ℕ) → IsIn (after_statement s plus)
  at_statement s h plus = lt-ltb s.located.section count (subst (λ n. s.located.section < n) counted (slice_get_within sections s.located.section s.located.home h.home))

  own_laid : (s : LaidStatement) → IsSettled sections s → IsIn (InSection s.located.section s.offset)
  own_laid s h = lt-ltb s.located.section count (subst (λ n. s.located.section < n) counted (slice_get_within sections s.located.section s.located.home h.home))

  found_laid : (ordinal plus : ℕ) (laid : List LaidStatement) → AllByRecursion (IsSettled sections) laid → IsIn (after_found (laid_at laid ordinal) plus)
  found_laid ordinal plus [] h = refl
  found_laid ordinal plus (s ∷ ss) (h, hs) = go (s.located.ordinal == ordinal) (found_laid ordinal plus ss hs)
    where
      go : (b : Bool) → IsIn (after_found (laid_at ss ordinal) plus) → IsIn (after_found (if b then Some s else laid_at ss ordinal) plus)
      go true k = at_statement s h plus
      go false k = k

  module _ (all : List LaidStatement) (settled : AllByRecursion (IsSettled sections) all) where
    by_meaning : (a : Assignment) (m : Meaning) → IsIn (elim m [ Known n ↦ Absolute n | InData section offset ↦ after_found (laid_at all a.ordinal) a.plus | OpenAddress ↦ Skipped 0 | Refused code ↦ Skipped 0 ])
    by_meaning a (Known n) = refl
    by_meaning a (InData section offset) = found_laid a.ordinal a.plus all settled
    by_meaning a OpenAddress = refl
    by_meaning a (Refused code) = refl

    assigned : (found : Option Assignment) → IsIn (assigned_definition all found)
    assigned None = refl
    assigned (Some a) = by_meaning a a.meaning

    defined : (s : LaidStatement) → IsSettled sections s → (kind : StatementKind) → IsIn (statement_definition t all s kind)
    defined s h (Directs (Sets name e)) = assigned (assigned_ever t.assignments name)
    defined s h (Directs d) = own_laid s h
    defined s h (Label name) = own_laid s h
    defined s h (Numbered number) = own_laid s h
    defined s h (Instruction mnemonic operands) = own_laid s h

    all_named : (make : List ℕ → Symbol) → ((name : List ℕ) → Stands (make name) ≡ true) → (names : List (List ℕ)) → AllStand (map make names)
    all_named make h [] = refl
    all_named make h (name ∷ names) = ap (λ b. b && list_all Stands (map make names)) (h name) ∙ all_named make h names

    all_left : (test : Symbol → Bool) (xs : List Symbol) → AllStand xs → AllStand (filter test xs)
    all_left test [] h = refl
    all_left test (x ∷ xs) h = let both = and_parts (Stands x) (list_all Stands xs) h in go (test x) both.0 (all_left test xs both.1)
      where
        go : (b : Bool) → Stands x ≡ true → AllStand (filter test xs) → AllStand (if b then x ∷ filter test xs else filter test xs)
        go true e rest = ap (λ b. b && list_all Stands (filter test xs)) e ∙ rest
        go false e rest = rest

    all_append : (xs ys : List Symbol) → AllStand xs → AllStand ys → AllStand (xs ++ ys)
    all_append xs ys h k = list_all-append Stands xs ys ∙ ap (λ b. b && list_all Stands ys) h ∙ k

    unnamed : (before : List LaidStatement) (s : LaidStatement) → IsSettled sections s → AllStand (unnamed_symbols t (references t all) before s)
    unnamed before s h = go (is_meant t (references t all) s && not (list_any (λ q. are_together s q && is_meant t (references t all) q) before))
      where
        go : (b : Bool) → AllStand (if b then local_symbol [] (InSection s.located.section s.offset) ∷ [] else [])
        go true = ap (λ b. b && true) (own_laid s h)
        go false = refl

    locals : (before laid : List LaidStatement) → AllByRecursion (IsSettled sections) laid → AllStand (local_symbols t all before laid)
    locals before [] h = refl
    locals before (s ∷ ss) (h, hs) =
        all_append (unnamed_symbols t (references t all) before s) (named_symbols t all s ++ local_symbols t all (before ++ s ∷ []) ss) (unnamed before s h)
        (all_append (named_symbols t all s) (local_symbols t all (before ++ s ∷ []) ss)
        (all_left (λ x. not (is_absolute x)) (map (λ name. local_symbol name (statement_definition t all s s.located.kind)) (filter (λ name. not (is_shared (t.bindings name))) (defined_name t s.located.ordinal s.located.kind)))
        (all_named (λ name. local_symbol name (statement_definition t all s s.located.kind)) (λ name. defined s h s.located.kind) (filter (λ name. not (is_shared (t.bindings name))) (defined_name t s.located.ordinal s.located.kind))))
        (locals (before ++ s ∷ []) ss hs))

    exported : (laid : List LaidStatement) → AllByRecursion (IsSettled sections) laid → AllStand (flat_map (exports_of t all) laid)
    exported [] h = refl
    exported (s ∷ ss) (h, hs) =
        all_append (exports_of t all s) (flat_map (exports_of t all) ss)
        (all_named (λ name. shared_symbol t name (statement_definition t all s s.located.kind)) (λ name. defined s h s.located.kind) (names_where is_shared t s.located)) (exported ss hs)

    pub symbols_stand : AllStand (symbols_of t all)
    symbols_stand =
        all_append (local_symbols t all [] all) (exports t all ++ undefined_symbols t all) (locals [] all settled)
        (all_append (exports t all) (undefined_symbols t all) (exported all settled)
        (all_named (λ name. shared_symbol t name Undefined) (λ name. refl) (distinct_from [] (flat_map (λ r. missing_name t r.ordinal r.symbol) (references t all)))))
