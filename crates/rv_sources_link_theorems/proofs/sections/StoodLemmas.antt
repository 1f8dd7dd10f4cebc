-- The symbols of an object of a source stand at its statements.

use Rattle.std.proofs.Common.{◌≡◌, ℕ, ◌+◌, ◌≤◌, Bool, true, false, List, [], ◌∷◌, ◌++◌, map, refl, sym, ap, ◌∙◌, subst, Option, Some, None, ◌⊎◌, inl, inr}
use Rattle.std.proofs.lemmas.Bool.{and_parts, eqb-true, eq-eqb, le-ltb}
use Rattle.std.specs.Prelude.{⊤, not, ◌&&◌, ◌||◌, ◌==◌, nat_lt, if◌then◌else◌, filter, flat_map, bytes_eq}
use Rattle.std.specs.List.{AllByRecursion, list_any}
use Rattle.rv_list_laws.proofs.EachLemmas.{each_map, each_append}
use Rattle.rv_list_laws.proofs.FindLemmas.{each_find}
use Rattle.rv_expression_laws.specs.Values.{Meaning, Known, InSection as InData, Open as OpenAddress, Refused}
use Rattle.rv_statement_laws.specs.Statement.{StatementKind, Label, Numbered, Instruction, Directs, Statement, Enters, Sets}
use Rattle.rv_unit_laws.specs.Bindings.{is_shared}
use Rattle.rv_unit_laws.specs.Sections.{goes_to_text as source_text}
use Rattle.rv_unit_laws.specs.Tables.{Tables, Assignment, tables, at_start, assigned_ever}
use Rattle.rv_source_laws.specs.Exports.{names_where}
use Rattle.rv_object_laws.specs.declared.symbol.Definition.{Definition as Defined}
use Rattle.rv_object_laws.specs.declared.symbol.Definition.TheVariants.{Undefined, Absolute, InSection, Skipped}
use Rattle.rv_object_laws.specs.Object.{Symbol, Object}
use Rattle.rv_link_laws.specs.CallSites.{is_inside, is_entered}
use Rattle.rv_assemble_laws.specs.LaidStatements.{LaidStatement, laid_in}
use Rattle.rv_assemble_laws.specs.Symbols.{laid_at, after_found, assigned_definition, statement_definition, local_symbol, shared_symbol, references, unnamed_symbols, named_symbols, local_symbols, exports_of, exports, undefined_symbols, is_absolute, is_meant, are_together, distinct_from, missing_name}
use Rattle.rv_assemble_laws.specs.IsObjectOf.{IsInData, StandsInData, IsObjectOf}
use Rattle.rv_sources_link_theorems.proofs.statements.CodeOfLemmas.{IsFound, found_from}

-- a statement is the first of its ordinal
abbrev pub IsFirst : List LaidStatement → LaidStatement → Type 0
IsFirst S z = laid_at S z.located.ordinal ≡ Some z

-- a statement at which a definition stands
pub record StandsAt (S : List LaidStatement) (section offset : ℕ) : Type 0 where
  pub n : ℕ
  pub z : LaidStatement
  pub found : laid_at S n ≡ Some z
  pub there : section ≡ z.located.section
  pub same : source_text z.located.home ≡ true → offset ≡ z.offset

abbrev pub IsStood : List LaidStatement → Defined → Type 0
IsStood S (InSection section offset) = StandsAt S section offset
IsStood S Undefined = ⊤
IsStood S (Absolute n) = ⊤
IsStood S (Skipped n) = ⊤

module _ (t : Tables) (S : List LaidStatement) (places : AllByRecursion (StandsInData S) t.assignments) where
  abbrev Stood : Symbol → Type 0
  Stood x = IsStood S x.definition

  found_stood : (a : Assignment) (y : Option LaidStatement) → laid_at S a.ordinal ≡ y → IsInData y → IsStood S (after_found y a.plus)
  found_stood a None e k = tt
  found_stood a (Some z) e (aside, placed) = record {
    n = a.ordinal;
    z = z;
    found = e;
    there = refl;
    same = λ text. let f : true ≡ false = sym (and_parts z.located.home.loaded z.located.home.executable text).1 ∙ aside in absurd (cc);
  }

  assigned_stood : (a : Option Assignment) → ((b : Assignment) → a ≡ Some b → StandsInData S b) → IsStood S (assigned_definition S a)
  assigned_stood None k = tt
  assigned_stood (Some a) k = go a.meaning (k a refl)
    where
      go : (m : Meaning) → StandsInData S (record a { meaning = m }) → IsStood S (assigned_definition S (Some (record a { meaning = m })))
      go (Known n) k = tt
      go (InData section offset) k = found_stood (record a { meaning = InData section offset }) (laid_at S a.ordinal) refl (k refl)
      go OpenAddress k = tt
      go (Refused code) k = tt

  here_stood : (z : LaidStatement) → IsFirst S z → StandsAt S z.located.section z.offset
  here_stood z u = record { n = z.located.ordinal; z = z; found = u; there = refl; same = λ text. refl }

  laid_stood : (z : LaidStatement) (kind : StatementKind) → IsFirst S z → IsStood S (statement_definition t S z kind)
  laid_stood z (Label name) u = here_stood z u
  laid_stood z (Numbered number) u = here_stood z u
  laid_stood z (Instruction m os) u = here_stood z u
  laid_stood z (Directs (Sets name e)) u = assigned_stood (assigned_ever t.assignments name) (λ a k. each_find (StandsInData S) (λ s. bytes_eq s.name name) t.assignments places a k)
  laid_stood z (Directs (Enters section)) u = here_stood z u
  laid_stood z (Directs _) u = here_stood z u

  locals_stood : (d : Defined) → IsStood S d → (test : Symbol → Bool) (names : List (List ℕ)) → AllByRecursion Stood (filter test (map (λ name. local_symbol name d) names))
  locals_stood d h test [] = tt
  locals_stood d h test (name ∷ names) = go (test (local_symbol name d)) (locals_stood d h test names)
    where
      go : (b : Bool) → AllByRecursion Stood (filter test (map (λ name. local_symbol name d) names))
          → AllByRecursion Stood (if b then local_symbol name d ∷ filter test (map (λ name. local_symbol name d) names) else filter test (map (λ name. local_symbol name d) names))
      go true ih = (h, ih)
      go false ih = ih

  shared_stood : (d : Defined) → IsStood S d → (names : List (List ℕ)) → AllByRecursion Stood (map (λ name. shared_symbol t name d) names)
  shared_stood d h [] = tt
  shared_stood d h (name ∷ names) = (h, shared_stood d h names)

  unnamed_stood : (b : Bool) (z : LaidStatement) → IsFirst S z → AllByRecursion Stood (if b then local_symbol [] (InSection z.located.section z.offset) ∷ [] else [])
  unnamed_stood true z u = (here_stood z u, tt)
  unnamed_stood false z u = tt

  all_locals : (before rest : List LaidStatement) → AllByRecursion (IsFirst S) rest → AllByRecursion Stood (local_symbols t S before rest)
  all_locals before [] u = tt
  all_locals before (z ∷ rest) (u, us) =
      each_append Stood (unnamed_symbols t (references t S) before z) (named_symbols t S z ++ local_symbols t S (before ++ z ∷ []) rest)
      (unnamed_stood (is_meant t (references t S) z && not (list_any (λ q. are_together z q && is_meant t (references t S) q) before)) z u)
      (each_append Stood (named_symbols t S z) (local_symbols t S (before ++ z ∷ []) rest)
      (locals_stood (statement_definition t S z z.located.kind) (laid_stood z z.located.kind u) (λ x. not (is_absolute x)) (names_where (λ b. not (is_shared b)) t z.located))
      (all_locals (before ++ z ∷ []) rest us))

  all_exports : (rest : List LaidStatement) → AllByRecursion (IsFirst S) rest → AllByRecursion Stood (flat_map (exports_of t S) rest)
  all_exports [] u = tt
  all_exports (z ∷ rest) (u, us) =
      each_append Stood (exports_of t S z) (flat_map (exports_of t S) rest) (shared_stood (statement_definition t S z z.located.kind) (laid_stood z z.located.kind u) (names_where is_shared t z.located)) (all_exports rest us)

pub stood : (ss : List Statement) (o : Object) (is : IsObjectOf ss o) → AllByRecursion (λ x. IsStood is.laid x.definition) o.symbols
stood ss o is =
    let t = tables ss in
    subst (λ l. AllByRecursion (λ (x : Symbol). IsStood is.laid x.definition) l) (sym is.symbols)
    (each_append (λ (x : Symbol). IsStood is.laid x.definition) (local_symbols t is.laid [] is.laid) (exports t is.laid ++ undefined_symbols t is.laid)
    (all_locals t is.laid is.places [] is.laid firsts)
    (each_append (λ (x : Symbol). IsStood is.laid x.definition) (exports t is.laid) (undefined_symbols t is.laid) (all_exports t is.laid is.places is.laid firsts)
    (shared_stood t is.laid is.places Undefined tt (distinct_from [] (flat_map (λ r. missing_name t r.ordinal r.symbol) (references t is.laid))))))
  where
    firsts : AllByRecursion (IsFirst is.laid) is.laid
    firsts = each_map (IsFound 1 is.laid) (IsFirst is.laid) is.laid (λ z k. k.1)
        (found_from 1 (at_start ss) ss is.laid is.located)

-- ---- none stands inside a call

-- a statement is before or at one of 8 bytes, or behind it
abbrev pub IsAside : ℕ → LaidStatement → Type 0
IsAside o y = (y.offset ≤ o) ⊎ (o + 8 ≤ y.offset)

in_section : (P : LaidStatement → Type 0) (j n : ℕ) (S : List LaidStatement) → AllByRecursion P (laid_in j S) → (z : LaidStatement) → laid_at S n ≡ Some z → z.located.section ≡ j → P z
in_section P j n [] h z e s = absurd (cc)
in_section P j n (y ∷ S) h z e s = go (y.located.ordinal == n) e (λ f. in_section P j n S (tail (y.located.section == j) h) z f s)
  where
    head : (b : Bool) → b ≡ true → AllByRecursion P (if b then y ∷ laid_in j S else laid_in j S) → P y
    head true k (p, ps) = p
    head false k ps = absurd (cc)

    tail : (b : Bool) → AllByRecursion P (if b then y ∷ laid_in j S else laid_in j S) → AllByRecursion P (laid_in j S)
    tail true (p, ps) = ps
    tail false ps = ps

    go : (b : Bool) → (if b then Some y else laid_at S n) ≡ Some z → (laid_at S n ≡ Some z → P z) → P z
    go true f later =
        let same : y ≡ z = cc in
        subst P same (head (y.located.section == j) (eq-eqb y.located.section j (ap (λ (q : LaidStatement). q.located.section) same ∙ s)) h)
    go false f later = later f

module _ (S : List LaidStatement) (j o : ℕ) (text : (n : ℕ) (z : LaidStatement) → laid_at S n ≡ Some z → z.located.section ≡ j → source_text z.located.home ≡ true) (aside : AllByRecursion (IsAside o) (laid_in j S)) where
  not_inside : (d : Defined) → IsStood S d → is_inside j o d ≡ false
  not_inside Undefined h = refl
  not_inside (Absolute n) h = refl
  not_inside (Skipped n) h = refl
  not_inside (InSection section offset) h = go (section == j) refl
    where
      by : (y : LaidStatement) → offset ≡ y.offset → IsAside o y → (nat_lt o offset && nat_lt offset (o + 8)) ≡ false
      by y e (inl low) = ap (λ b. b && nat_lt offset (o + 8)) (ap (nat_lt o) e ∙ le-ltb o y.offset low)
      by y e (inr high) = ap (λ b. nat_lt o offset && b) (ap (λ n. nat_lt n (o + 8)) e ∙ le-ltb y.offset (o + 8) high) ∙ never (nat_lt o offset)
        where
          never : (b : Bool) → (b && false) ≡ false
          never true = refl
          never false = refl

      go : (b : Bool) → (section == j) ≡ b → is_inside j o (InSection section offset) ≡ false
      go false e = ap (λ b. b && nat_lt o offset && nat_lt offset (o + 8)) e
      go true e =
          let at_j : h.z.located.section ≡ j = sym h.there ∙ eqb-true section j e in
          ap (λ b. b && nat_lt o offset && nat_lt offset (o + 8)) e
          ∙ by h.z (h.same (text h.n h.z h.found at_j)) (in_section (IsAside o) j h.n S aside h.z h.found at_j)

  none_inside : (xs : List Symbol) → AllByRecursion (λ x. IsStood S x.definition) xs → list_any (λ s. is_inside j o s.definition) xs ≡ false
  none_inside [] h = refl
  none_inside (x ∷ xs) (h, hs) = ap (λ b. b || list_any (λ s. is_inside j o s.definition) xs) (not_inside x.definition h) ∙ none_inside xs hs

  pub not_entered : (u : Object) → AllByRecursion (λ x. IsStood S x.definition) u.symbols → is_entered u j o ≡ false
  not_entered u h = none_inside u.symbols h
