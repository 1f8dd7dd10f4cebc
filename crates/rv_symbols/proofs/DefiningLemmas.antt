-- The symbols of a name are those of the statement that defines it.

use Rattle.std.proofs.Common.{◌≡◌, ℕ, ◌+◌, ◌<◌, ◌^◌, Bool, true, false, List, [], ◌∷◌, map, refl, sym, ap, ◌∙◌, subst, arith, Option, Some, None}
use Rattle.std.specs.Prelude.{◌&&◌, ◌||◌, ◌==◌, not, nat_lt, is_some, slice_get, if◌then◌else◌}
use Rattle.std.specs.List.{AllByRecursion, list_any}
use Rattle.std.specs.Str.{bytes_eq}
use Rattle.std.proofs.lemmas.Bool.{eq-eqb, ltb-true, or_left, and_from}
use Rattle.rv_list_laws.proofs.ElementsLemmas.{same_bytes}
use Rattle.rv_list_laws.proofs.EachLemmas.{get_each, each_by_index}
use Rattle.rv_list_laws.proofs.FindLemmas.{find_test, found_any, found_each}
use Rattle.rv_map_laws.specs.Globals.{is_one_of}
use Rattle.rv_expression_laws.specs.Expression.{Symbol as Named}
use Rattle.rv_expression_laws.specs.Values.{Meaning, Known, InSection as InData, Open as OpenAddress, Refused, add}
use Rattle.rv_statement_laws.specs.Statement.{StatementKind, Label, Numbered, Instruction, Directs, Statement, Expression, Enters, Opens, Binds, Sets, Chooses, Ignored, Aligns, Emits}
use Rattle.rv_unit_laws.specs.Tables as laws
use Rattle.rv_unit_laws.specs.Tables.{Tables, Labelled, Assignment, at_start, tables, definition_at, label_of, assigned_ever, assigned_before, is_location}
use Rattle.rv_unit_laws.specs.Faults.{first_unit_fault}
use Rattle.rv_unit_laws.proofs.FewLemmas.{no_fault_from}
use Rattle.rv_unit_laws.proofs.FoundLemmas.{bytes_same, and_both}
use Rattle.rv_unit_laws.proofs.BeforeLemmas.{before_start}
use Rattle.rv_source_laws.specs.Located.{located_from}
use Rattle.rv_source_laws.specs.Exports.{sets_first, defined_name}
use Rattle.rv_object_laws.specs.declared.symbol.Definition.{Definition as Defined}
use Rattle.rv_object_laws.specs.declared.symbol.Definition.TheVariants.{Absolute, InSection, Skipped}
use Rattle.rv_assemble_laws.specs.LaidStatements.{LaidStatement}
use Rattle.rv_assemble_laws.specs.Symbols.{laid_at, after_statement, after_found, assigned_definition, statement_definition, local_symbol, is_absolute, symbols_of, StandsFor}
use Rattle.rv_symbols.specs.Numbers.{numbering_in}
use Rattle.rv_symbols.proofs.StandsLemmas.{statement_by}
use Rattle.rv_assemble_laws.proofs.OrdinalsLemmas.{ordinal_by}
use Rattle.rv_symbols.proofs.OwnedLemmas.{own_stands, own_named, own_all}
use Rattle.rv_assemble_laws.proofs.SingleLemmas.{OnlySet, AreNumbers, of_label, of_set, of_numbers}
use Rattle.rv_assemble_laws.proofs.OneNameLemmas.{Is, IsSet, IsFound, one_name, labels_found, none_all}

-- ---- lists

not_both : {A : Type 0} (b : Bool) → b ≡ true → b ≡ false → A
not_both true e f = absurd (cc)
not_both false e f = absurd (cc)

-- what none is, none of the list is with more asked
none_any : (name : List ℕ) (o : ℕ) (xs : List Assignment) → assigned_ever xs name ≡ None → list_any (λ s. (s.ordinal == o) && bytes_eq s.name name) xs ≡ false
none_any name o [] e = refl
none_any name o (x ∷ xs) e = go (x.ordinal == o) (bytes_eq x.name name) e (none_any name o xs)
  where
    go : (a b : Bool) → (if b then Some x else assigned_ever xs name) ≡ None → (assigned_ever xs name ≡ None → list_any (λ s. (s.ordinal == o) && bytes_eq s.name name) xs ≡ false)
        → ((a && b) || list_any (λ s. (s.ordinal == o) && bytes_eq s.name name) xs) ≡ false
    go a true e ih = absurd (cc)
    go true false e ih = ih e
    go false false e ih = ih e

below_self : (n : ℕ) {A : Type 0} → nat_lt n n ≡ true → A
below_self n e = let l : n < n = ltb-true n n e in absurd (omega arith)

-- ---- the statements of a source

module _ (ss : List Statement) (laid : List LaidStatement) (located : map (λ s. s.located) laid ≡ located_from 1 1 (at_start ss) ss) where
  pub laid_of : (o i : ℕ) (s : LaidStatement) → slice_get laid i ≡ Some s → s.located.ordinal ≡ o → laid_at laid o ≡ Some s
  laid_of o i s at is =
      let own : s.located.ordinal ≡ 1 + i = ordinal_by 1 (at_start ss) ss laid located i s at in
      statement_by 1 (at_start ss) ss laid located o i (omega (arith, own, is)) ∙ at

  module _ (free : first_unit_fault ss ≡ None) (low : (i : ℕ) (s : LaidStatement) → slice_get laid i ≡ Some s → s.offset < 2 ^ 64) (name : List ℕ) (shown : bytes_eq [] name ≡ false) (o : ℕ) where
    abbrev t : Tables
    t = tables ss

    abbrev Stands : Type 0
    Stands = StandsFor t laid o (Named name) (slice_get (symbols_of t laid) (numbering_in t laid o (Named name)))

    abbrev Own : laws.Definition → Defined → Type 0
    Own d x = (s : LaidStatement) × (laid_at laid d.ordinal ≡ Some s) × (s.located.placed ≡ true) × (x ≡ after_statement s d.plus)

    -- a statement that defines the name gives it this definition
    abbrev Gives : laws.Definition → LaidStatement → StatementKind → Type 0
    Gives d s kind = AllByRecursion (λ n. bytes_eq n name ≡ true → Own d (statement_definition t laid s kind)) (defined_name t s.located.ordinal kind)

    founds : AllByRecursion (IsFound name t) laid
    founds = labels_found name t 1 (at_start ss) ss laid located (no_fault_from ss free) (before_start ss 1) refl

    found_label : (i : ℕ) (s : LaidStatement) (n : List ℕ) → slice_get laid i ≡ Some s → s.located.kind ≡ Label n → bytes_eq n name ≡ true → (l : Labelled) × (label_of t.labels true 0 name ≡ Some l) × (l.ordinal ≡ s.located.ordinal)
    found_label i s n at is f = get_each (IsFound name t) laid i s at founds n is f

    all_give : (d : laws.Definition) → ((i : ℕ) (s : LaidStatement) (n : List ℕ) → slice_get laid i ≡ Some s → s.located.kind ≡ Label n → bytes_eq n name ≡ true → Own d (InSection s.located.section s.offset))
        → ((ordinal : ℕ) → sets_first t.assignments ordinal name ≡ true → Own d (assigned_definition laid (assigned_ever t.assignments name))) → AllByRecursion (λ s. Gives d s s.located.kind) laid
    all_give d label set = each_by_index (λ s. Gives d s s.located.kind) laid (λ i s at. go i s at s.located.kind refl)
      where
        go : (i : ℕ) (s : LaidStatement) → slice_get laid i ≡ Some s → (kind : StatementKind) → s.located.kind ≡ kind → Gives d s kind
        go i s at (Label n) is = (label i s n at is, tt)
        go i s at (Numbered number) is = tt
        go i s at (Instruction mnemonic operands) is = tt
        go i s at (Directs (Enters section)) is = tt
        go i s at (Directs (Opens section flags kind)) is = tt
        go i s at (Directs (Binds binding names)) is = tt
        go i s at (Directs (Sets n e)) is = first (sets_first t.assignments s.located.ordinal n) refl
          where
            first : (b : Bool) → sets_first t.assignments s.located.ordinal n ≡ b → AllByRecursion (λ m. bytes_eq m name ≡ true → Own d (statement_definition t laid s (Directs (Sets n e)))) (if b then n ∷ [] else [])
            first false g = tt
            first true g = (
              λ f. (
                  let same : n ≡ name = same_bytes n name f in
                  subst (λ m. Own d (assigned_definition laid (assigned_ever t.assignments m))) (sym same) (set s.located.ordinal (ap (sets_first t.assignments s.located.ordinal) (sym same) ∙ g))
                  ),
              tt,
            )
        go i s at (Directs (Aligns form x)) is = tt
        go i s at (Directs (Emits contents)) is = tt
        go i s at (Directs (Chooses choice)) is = tt
        go i s at (Directs Ignored) is = tt

    -- the name is one label
    of_one_label : (l : Labelled) → label_of t.labels true 0 name ≡ Some l → assigned_ever t.assignments name ≡ None → Is name laid t.assignments (Some l) None → Stands
    of_one_label l e f (i, s, at, is, placed, kind) =
        own_stands t laid name o (definition_at l.ordinal) (of_label name t o l e f)
        (own_named t laid name i s at (ap (λ k. is_one_of (defined_name t s.located.ordinal k) name) kind ∙ or_left (bytes_eq name name) false (bytes_same name))
        (ap (λ k. is_absolute (local_symbol name (statement_definition t laid s k))) kind)) (own_all t laid name (Own (definition_at l.ordinal)) shown (all_give (definition_at l.ordinal) label set))
      where
        laid_statement : laid_at laid l.ordinal ≡ Some s
        laid_statement = laid_of l.ordinal i s at is

        label : (j : ℕ) (q : LaidStatement) (n : List ℕ) → slice_get laid j ≡ Some q → q.located.kind ≡ Label n → bytes_eq n name ≡ true → Own (definition_at l.ordinal) (InSection q.located.section q.offset)
        label j q n at_j is_j g =
            let found = found_label j q n at_j is_j g in
            let own : l ≡ found.0 = let both : Some l ≡ Some found.0 = sym e ∙ found.1 in cc in
            let there : laid_at laid l.ordinal ≡ Some q = laid_of l.ordinal j q at_j (sym found.2 ∙ sym (ap (λ (x : Labelled). x.ordinal) own)) in
            let bound = low j q at_j in
            let end : q.offset ≡ add q.offset 0 = omega (arith, bound) in (
              q,
              there,
              (let same : s ≡ q = let both : Some s ≡ Some q = sym laid_statement ∙ there in cc in subst (λ (x : LaidStatement). x.located.placed ≡ true) same placed),
              ap (InSection q.located.section) end,
            )

        set : (ordinal : ℕ) → sets_first t.assignments ordinal name ≡ true → Own (definition_at l.ordinal) (assigned_definition laid (assigned_ever t.assignments name))
        set ordinal g =
            not_both (list_any (λ s. (s.ordinal == ordinal) && bytes_eq s.name name) t.assignments) (and_both _ (not (is_some (assigned_before t.assignments ordinal name))) g).0 (none_any name ordinal t.assignments f)

    -- it is one place that `.set` gives
    given_place : (a : Assignment) (s : LaidStatement) → is_location a ≡ true → laid_at laid a.ordinal ≡ Some s → assigned_definition laid (Some a) ≡ after_statement s a.plus
    given_place a s l e = go a.meaning l
      where
        go : (m : Meaning) → ◌≡◌ {A = Bool} (elim m [ Known n ↦ false | InData section offset ↦ true | OpenAddress ↦ false | Refused code ↦ false ]) true
            → ◌≡◌ {A = Defined} (elim m [ Known n ↦ Absolute n | InData section offset ↦ after_found (laid_at laid a.ordinal) a.plus | OpenAddress ↦ Skipped 0 | Refused code ↦ Skipped 0 ]) (after_statement s a.plus)
        go (Known n) f = absurd (cc)
        go (InData section offset) f = ap (λ found. after_found found a.plus) e
        go OpenAddress f = absurd (cc)
        go (Refused code) f = absurd (cc)

    of_one_place : (a : Assignment) → label_of t.labels true 0 name ≡ None → assigned_ever t.assignments name ≡ Some a → is_location a ≡ true → Is name laid t.assignments None (Some a) → OnlySet name a t.assignments → (e : Expression)
        → (i : ℕ) (s : LaidStatement) → slice_get laid i ≡ Some s → s.located.ordinal ≡ a.ordinal → s.located.placed ≡ true → s.located.kind ≡ Directs (Sets name e) → Stands
    of_one_place a none f place h only e i s at is placed kind =
        own_stands t laid name o d (of_set name t o a none f only place)
        (own_named t laid name i s at
        (ap (λ k. is_one_of (defined_name t s.located.ordinal k) name) kind ∙ ap (λ b. is_one_of (if b then name ∷ [] else []) name) first ∙ or_left (bytes_eq name name) false (bytes_same name))
        (ap (λ k. is_absolute (local_symbol name (statement_definition t laid s k))) kind ∙ ap (λ x. is_absolute (local_symbol name x)) given)) (own_all t laid name (Own d) shown (all_give d label set))
      where
        d : laws.Definition
        d = record { ordinal = a.ordinal; plus = a.plus }

        laid_statement : laid_at laid a.ordinal ≡ Some s
        laid_statement = laid_of a.ordinal i s at is

        given : assigned_definition laid (assigned_ever t.assignments name) ≡ after_statement s a.plus
        given = ap (assigned_definition laid) f ∙ given_place a s place laid_statement

        before : (found : Option Assignment) → assigned_before t.assignments a.ordinal name ≡ found → not (is_some found) ≡ true
        before None g = refl
        before (Some x) g =
            let test = and_both (nat_lt x.ordinal a.ordinal) (bytes_eq x.name name) (find_test (λ (s : Assignment). nat_lt s.ordinal a.ordinal && bytes_eq s.name name) t.assignments x g) in
            let same : x ≡ a = found_each (λ (y : Assignment). bytes_eq y.name name ≡ true → y ≡ a) (λ s. nat_lt s.ordinal a.ordinal && bytes_eq s.name name) t.assignments x g only test.1 in
            below_self a.ordinal (ap (λ (y : Assignment). nat_lt y.ordinal a.ordinal) (sym same) ∙ test.0)

        first : sets_first t.assignments s.located.ordinal name ≡ true
        first =
            ap (λ n. sets_first t.assignments n name) is
            ∙ and_from (list_any (λ x. (x.ordinal == a.ordinal) && bytes_eq x.name name) t.assignments) _
            (found_any (λ (x : Assignment). bytes_eq x.name name) (λ x. (x.ordinal == a.ordinal) && bytes_eq x.name name) t.assignments a f
            (and_from (a.ordinal == a.ordinal) (bytes_eq a.name name) (eq-eqb a.ordinal a.ordinal refl) (find_test (λ (x : Assignment). bytes_eq x.name name) t.assignments a f)))
            (before (assigned_before t.assignments a.ordinal name) refl)

        label : (j : ℕ) (q : LaidStatement) (n : List ℕ) → slice_get laid j ≡ Some q → q.located.kind ≡ Label n → bytes_eq n name ≡ true → Own d (InSection q.located.section q.offset)
        label j q n at_j is_j g = absurd (let found = found_label j q n at_j is_j g in let both : Some found.0 ≡ None = sym found.1 ∙ none in cc)

        set : (ordinal : ℕ) → sets_first t.assignments ordinal name ≡ true → Own d (assigned_definition laid (assigned_ever t.assignments name))
        set ordinal g = (s, laid_statement, placed, given)

    pub own_name : is_some (laws.definition t o (Named name)) ≡ true → Stands
    own_name some = go (label_of t.labels true 0 name) refl (assigned_ever t.assignments name) refl (one_name name laid 0 1 (at_start ss) ss laid refl located (before_start ss 1) tt)
      where
        numbers : label_of t.labels true 0 name ≡ None → AreNumbers name t.assignments → Stands
        numbers e h = not_both (is_some (laws.definition t o (Named name))) some (ap is_some (of_numbers name t o e h))

        go : (l : Option Labelled) → label_of t.labels true 0 name ≡ l → (a : Option Assignment) → assigned_ever t.assignments name ≡ a → Is name laid t.assignments l a → Stands
        go None e None f h = numbers e (none_all name laid (λ x. is_location x ≡ false) t.assignments f)
        go (Some l) e None f h = of_one_label l e f h
        go (Some l) e (Some a) f h = absurd h
        go None e (Some a) f h = by (is_location a) refl
          where
            by : (b : Bool) → is_location a ≡ b → Stands
            by false g = numbers e (subst (IsSet name laid t.assignments a) g h)
            by true g =
                let there = subst (IsSet name laid t.assignments a) g h in
                let at = there.1.1 in
                of_one_place a e f g h there.0 there.1.0 at.0 at.1 at.2 at.3 at.4 at.5
