-- No name of a source is defined by two statements.

use Rattle.std.proofs.Common.{◌≡◌, ◌⊎◌, inl, inr, ℕ, zero, suc, ◌+◌, ◌<◌, ◌≤◌, Bool, true, false, List, [], ◌∷◌, map, refl, sym, ap, ◌∙◌, subst, arith, Option, Some, None}
use Rattle.std.specs.Prelude.{not, ◌&&◌, ◌||◌, ◌==◌, nat_lt, is_some, flat_map, slice_get, if◌then◌else◌}
use Rattle.std.specs.List.{AllByRecursion, find, list_any}
use Rattle.std.specs.Str.{bytes_eq}
use Rattle.std.proofs.lemmas.Bool.{eqb-true, lt-ltb, ltb-true, ltb-false, and_parts}
use Rattle.rv_list_laws.proofs.ElementsLemmas.{same_bytes}
use Rattle.rv_list_laws.proofs.EachLemmas.{get_each}
use Rattle.rv_statement_laws.specs.Statement.{StatementKind, Label, Directs, Statement, Sets}
use Rattle.rv_unit_laws.specs.Tables.{Tables, Labelled, Assignment, at_start, tables, label_of, assigned_ever, assigned_before}
use Rattle.rv_unit_laws.specs.Faults.{first_unit_fault}
use Rattle.rv_unit_laws.proofs.FewLemmas.{no_fault_from}
use Rattle.rv_unit_laws.proofs.FoundLemmas.{bytes_same}
use Rattle.rv_unit_laws.proofs.BeforeLemmas.{before_start}
use Rattle.rv_source_laws.specs.Located.{located_from}
use Rattle.rv_source_laws.specs.Exports.{sets_first, defined_name}
use Rattle.rv_assemble_laws.specs.LaidStatements.{LaidStatement}
use Rattle.rv_assemble_laws.proofs.OrdinalsLemmas.{ordinal_by}
use Rattle.rv_assemble_laws.proofs.OneNameLemmas.{Is, IsFound, one_name, labels_found}
use Rattle.rv_unique_theorems.proofs.CountsLemmas.{one_if, count, count_append, one_most}
use Rattle.rv_unique_theorems.proofs.LoneSymbolsLemmas.{is_this, names_of}

-- ---- a name is set first once

any_found : (name : List ℕ) (o k : ℕ) → o < k → (xs : List Assignment) → list_any (λ s. (s.ordinal == o) && bytes_eq s.name name) xs ≡ true
    → is_some (find (λ s. nat_lt s.ordinal k && bytes_eq s.name name) xs) ≡ true
any_found name o k less [] e = absurd (cc)
any_found name o k less (x ∷ xs) e = go (x.ordinal == o) refl (bytes_eq x.name name) e (any_found name o k less xs)
  where
    tested : (b : Bool) → nat_lt x.ordinal k ≡ b → (c : Bool) → (c ≡ true → b ≡ true → is_some (if b && c then Some x else find (λ s. nat_lt s.ordinal k && bytes_eq s.name name) xs) ≡ true)
    tested true f true g h = refl
    tested true f false g h = absurd (cc)
    tested false f c g h = absurd (cc)

    other : (b : Bool) → is_some (find (λ s. nat_lt s.ordinal k && bytes_eq s.name name) xs) ≡ true → is_some (if b then Some x else find (λ s. nat_lt s.ordinal k && bytes_eq s.name name) xs) ≡ true
    other true h = refl
    other false h = h

    go : (a : Bool) → (x.ordinal == o) ≡ a → (b : Bool) → ((a && b) || list_any (λ s. (s.ordinal == o) && bytes_eq s.name name) xs) ≡ true
        → (list_any (λ s. (s.ordinal == o) && bytes_eq s.name name) xs ≡ true → is_some (find (λ s. nat_lt s.ordinal k && bytes_eq s.name name) xs) ≡ true)
        → is_some (if nat_lt x.ordinal k && b then Some x else find (λ s. nat_lt s.ordinal k && bytes_eq s.name name) xs) ≡ true
    go true f true e ih =
        let at : x.ordinal ≡ o = eqb-true x.ordinal o f in
        let below : nat_lt x.ordinal k ≡ true = lt-ltb x.ordinal k (let l : x.ordinal < k = omega (arith, at, less) in l) in
        tested (nat_lt x.ordinal k) refl true refl below
    go true f false e ih = other (nat_lt x.ordinal k && false) (ih e)
    go false f b e ih = other (nat_lt x.ordinal k && b) (ih e)

first_before : (name : List ℕ) (xs : List Assignment) (o k : ℕ) → o < k → sets_first xs o name ≡ true → sets_first xs k name ≡ true → ⊥
first_before name xs o k less f g =
    let at = (and_parts (list_any (λ (s : Assignment). (s.ordinal == o) && bytes_eq s.name name) xs) (not (is_some (assigned_before xs o name))) f).0 in
    let free = (and_parts (list_any (λ (s : Assignment). (s.ordinal == k) && bytes_eq s.name name) xs) (not (is_some (assigned_before xs k name))) g).1 in
    let none : not true ≡ true = ap not (sym (any_found name o k less xs at)) ∙ free in
    absurd (cc)

first_once : (name : List ℕ) (xs : List Assignment) (o k : ℕ) → sets_first xs o name ≡ true → sets_first xs k name ≡ true → o ≡ k
first_once name xs o k f g = go (nat_lt o k) refl (nat_lt k o) refl
  where
    go : (b : Bool) → nat_lt o k ≡ b → (c : Bool) → nat_lt k o ≡ c → o ≡ k
    go true e c h = absurd (first_before name xs o k (ltb-true o k e) f g)
    go false e true h = absurd (first_before name xs k o (ltb-true k o h) g f)
    go false e false h =
        let low : k ≤ o = ltb-false o k e in
        let high : o ≤ k = ltb-false k o h in
        omega (arith, low, high)

-- a name that is set first has an assignment
first_ever : (name : List ℕ) (o : ℕ) (xs : List Assignment) → assigned_ever xs name ≡ None → list_any (λ s. (s.ordinal == o) && bytes_eq s.name name) xs ≡ true → ⊥
first_ever name o [] e f = absurd (cc)
first_ever name o (x ∷ xs) e f = go (bytes_eq x.name name) (x.ordinal == o) e f (first_ever name o xs)
  where
    go : (b c : Bool) → (if b then Some x else assigned_ever xs name) ≡ None → ((c && b) || list_any (λ s. (s.ordinal == o) && bytes_eq s.name name) xs) ≡ true
        → (assigned_ever xs name ≡ None → list_any (λ s. (s.ordinal == o) && bytes_eq s.name name) xs ≡ true → ⊥) → ⊥
    go true c g h ih = absurd (cc)
    go false true g h ih = ih g h
    go false false g h ih = ih g h

-- ---- one statement defines it

-- how it does
abbrev Defines : Tables → List ℕ → ℕ → StatementKind → Type 0
Defines t name o kind = (kind ≡ Label name) ⊎ (sets_first t.assignments o name ≡ true)

how_defined : (t : Tables) (name : List ℕ) (o : ℕ) (kind : StatementKind) → 1 ≤ count (is_this name) (defined_name t o kind) → Defines t name o kind
how_defined t name o (Label n) h = go (bytes_eq n name) refl h
  where
    go : (b : Bool) → bytes_eq n name ≡ b → 1 ≤ one_if b + 0 → (Label n ≡ Label name) ⊎ (sets_first t.assignments o name ≡ true)
    go true e h = inl (ap Label (same_bytes n name e))
    go false e h = absurd (omega (arith, h))
how_defined t name o (Directs (Sets n x)) h = go (sets_first t.assignments o n) refl h
  where
    named : (b : Bool) → bytes_eq n name ≡ b → sets_first t.assignments o n ≡ true → 1 ≤ one_if b + 0 → (Directs (Sets n x) ≡ Label name) ⊎ (sets_first t.assignments o name ≡ true)
    named true e f h = inr (ap (sets_first t.assignments o) (sym (same_bytes n name e)) ∙ f)
    named false e f h = absurd (omega (arith, h))

    go : (b : Bool) → sets_first t.assignments o n ≡ b → 1 ≤ count (is_this name) (if b then n ∷ [] else []) → (Directs (Sets n x) ≡ Label name) ⊎ (sets_first t.assignments o name ≡ true)
    go true f h = named (bytes_eq n name) refl f h
    go false f h = absurd (omega (arith, h))
how_defined t name o kind h = absurd (omega (arith, h))

module _ (ss : List Statement) (laid : List LaidStatement) (located : map (λ s. s.located) laid ≡ located_from 1 1 (at_start ss) ss) (free : first_unit_fault ss ≡ None) (name : List ℕ) where
  abbrev t : Tables
  t = tables ss

  founds : AllByRecursion (IsFound name t) laid
  founds = labels_found name t 1 (at_start ss) ss laid located (no_fault_from ss free) (before_start ss 1) refl

  -- the label that is found for it
  label_at : (i : ℕ) (s : LaidStatement) → slice_get laid i ≡ Some s → s.located.kind ≡ Label name → (l : Labelled) × (label_of t.labels true 0 name ≡ Some l) × (l.ordinal ≡ s.located.ordinal)
  label_at i s at is = get_each (IsFound name t) laid i s at founds name is (bytes_same name)

  -- a label is not set
  label_alone : (o : ℕ) (l : Labelled) → label_of t.labels true 0 name ≡ Some l → sets_first t.assignments o name ≡ true → ⊥
  label_alone o l e f = go (assigned_ever t.assignments name) refl (subst (λ found. Is name laid t.assignments found (assigned_ever t.assignments name)) e (one_name name laid 0 1 (at_start ss) ss laid refl located (before_start ss 1) tt))
    where
      go : (a : Option Assignment) → assigned_ever t.assignments name ≡ a → Is name laid t.assignments (Some l) a → ⊥
      go None g h = first_ever name o t.assignments g (and_parts (list_any (λ (s : Assignment). (s.ordinal == o) && bytes_eq s.name name) t.assignments) (not (is_some (assigned_before t.assignments o name))) f).0
      go (Some a) g h = h

  one_ordinal : (i j : ℕ) (s q : LaidStatement) → slice_get laid i ≡ Some s → slice_get laid j ≡ Some q → Defines t name s.located.ordinal s.located.kind → Defines t name q.located.ordinal q.located.kind
      → s.located.ordinal ≡ q.located.ordinal
  one_ordinal i j s q at_i at_j (inl e) (inl f) =
      let x = label_at i s at_i e in
      let y = label_at j q at_j f in
      let both : Some x.0 ≡ Some y.0 = sym x.1 ∙ y.1 in
      let same : x.0 ≡ y.0 = cc in
      sym x.2 ∙ ap (λ (l : Labelled). l.ordinal) same ∙ y.2
  one_ordinal i j s q at_i at_j (inl e) (inr f) = let x = label_at i s at_i e in absurd (label_alone q.located.ordinal x.0 x.1 f)
  one_ordinal i j s q at_i at_j (inr e) (inl f) = let y = label_at j q at_j f in absurd (label_alone s.located.ordinal y.0 y.1 e)
  one_ordinal i j s q at_i at_j (inr e) (inr f) = first_once name t.assignments s.located.ordinal q.located.ordinal e f

  abbrev Names : LaidStatement → ℕ
  Names s = count (is_this name) (names_of t s)

  one_statement : (i j : ℕ) (s q : LaidStatement) → slice_get laid i ≡ Some s → slice_get laid j ≡ Some q → 1 ≤ Names s → 1 ≤ Names q → i ≡ j
  one_statement i j s q at_i at_j h k =
      let a : s.located.ordinal ≡ 1 + i = ordinal_by 1 (at_start ss) ss laid located i s at_i in
      let b : q.located.ordinal ≡ 1 + j = ordinal_by 1 (at_start ss) ss laid located j q at_j in
      let same : s.located.ordinal ≡ q.located.ordinal =
      one_ordinal i j s q at_i at_j (how_defined t name s.located.ordinal s.located.kind h) (how_defined t name q.located.ordinal q.located.kind k) in
      omega (arith, a, b, same)

  -- a statement defines at most one name
  few_if : (b : Bool) (n : List ℕ) → count (is_this name) (if b then n ∷ [] else []) ≤ 1
  few_if true n = let one = one_most (is_this name n) in omega (arith, one)
  few_if false n = omega arith

  few : (o : ℕ) (kind : StatementKind) → count (is_this name) (defined_name t o kind) ≤ 1
  few o (Label n) = few_if true n
  few o (Directs (Sets n x)) = few_if (sets_first t.assignments o n) n
  few o kind = omega arith

  none_left : (xs : List LaidStatement) → ((j : ℕ) (q : LaidStatement) → slice_get xs j ≡ Some q → 1 ≤ Names q → ⊥) → count (is_this name) (flat_map (names_of t) xs) ≡ 0
  none_left [] f = refl
  none_left (x ∷ xs) f =
      let here : 1 ≤ Names x → ⊥ = f 0 x refl in
      let rest = none_left xs (λ j q at h. f (suc j) q at h) in
      let all = count_append (is_this name) (names_of t x) (flat_map (names_of t) xs) in
      go (Names x) refl here rest all
    where
      go : (n : ℕ) → Names x ≡ n → (1 ≤ n → ⊥) → count (is_this name) (flat_map (names_of t) xs) ≡ 0
          → count (is_this name) (flat_map (names_of t) (x ∷ xs)) ≡ Names x + count (is_this name) (flat_map (names_of t) xs) → count (is_this name) (flat_map (names_of t) (x ∷ xs)) ≡ 0
      go zero e h r a = omega (arith, e, r, a)
      go (suc n) e h r a = absurd (h (omega arith))

  once_in : (xs : List LaidStatement) → ((i j : ℕ) (s q : LaidStatement) → slice_get xs i ≡ Some s → slice_get xs j ≡ Some q → 1 ≤ Names s → 1 ≤ Names q → i ≡ j)
      → count (is_this name) (flat_map (names_of t) xs) ≤ 1
  once_in [] f = omega arith
  once_in (x ∷ xs) f =
      go (Names x) refl (once_in xs (λ i j s q a b h k. (let next : suc i ≡ suc j = f (suc i) (suc j) s q a b h k in let m : i ≡ j = omega (arith, next) in m)))
    where
      all : count (is_this name) (flat_map (names_of t) (x ∷ xs)) ≡ Names x + count (is_this name) (flat_map (names_of t) xs)
      all = count_append (is_this name) (names_of t x) (flat_map (names_of t) xs)

      most : Names x ≤ 1
      most = few x.located.ordinal x.located.kind

      go : (n : ℕ) → Names x ≡ n → count (is_this name) (flat_map (names_of t) xs) ≤ 1 → count (is_this name) (flat_map (names_of t) (x ∷ xs)) ≤ 1
      go zero e rest = omega (arith, all, e, rest)
      go (suc n) e rest =
          let some : 1 ≤ Names x = omega (arith, e) in
          let none : count (is_this name) (flat_map (names_of t) xs) ≡ 0 =
          none_left xs (λ j q at h. (let never : 0 ≡ suc j = f 0 (suc j) x q refl at some h in absurd (omega (arith, never)))) in
          omega (arith, all, most, none)

  -- the name is defined once
  pub defined_once : count (is_this name) (flat_map (names_of t) laid) ≤ 1
  defined_once = once_in laid one_statement
