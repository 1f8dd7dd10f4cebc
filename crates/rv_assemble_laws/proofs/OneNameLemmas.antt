-- A name of a source is one label, or one location, or constants, and each stands at its statement.

use Rattle.std.proofs.Common.{◌≡◌, ℕ, zero, suc, Bool, true, false, List, [], ◌∷◌, ◌++◌, map, drop, refl, sym, ap, ◌∙◌, subst, Option, Some, None}
use Rattle.std.specs.Prelude.{⊤, ◌&&◌, ◌||◌, nat_lt, slice_get, if◌then◌else◌}
use Rattle.std.specs.List.{AllByRecursion}
use Rattle.std.specs.Option.{option_or}
use Rattle.std.specs.Str.{bytes_eq}
use Rattle.std.proofs.lemmas.Bool.{not-true}
use Rattle.std.proofs.lemmas.List.Folds.{find-append}
use Rattle.rv_list_laws.proofs.ElementsLemmas.{same_bytes}
use Rattle.rv_expression_laws.specs.Expression.{Literal, Symbol, Here, Reference}
use Rattle.rv_expression_laws.specs.Values.{Known, InSection, Open, Refused, Value, Constant, Symbolic, Difference, Faulty, add}
use Rattle.rv_statement_laws.specs.Statement.{StatementKind, Label, Numbered, Instruction, Directs, Statement, Expression, Directive, Enters, Opens, Binds, Sets, Chooses, Ignored, Aligns, Emits}
use Rattle.rv_unit_laws.specs.Sections.{entered_by}
use Rattle.rv_unit_laws.specs.Tables.{Tables, Labelled, Assignment, here, value_by_tables, label_of, assigned_ever, is_location, gives_location, is_defined, has_location, may_set, assigned, assigned_by, with_assignment, with_label, with_section, after_directive, after, after_all}
use Rattle.rv_unit_laws.proofs.AloneLemmas.{Same, section_same, directive_same, own_label, other_label, undefined, unplaced}
use Rattle.rv_expression_laws.specs.Codes.{lowest}
use Rattle.rv_unit_laws.specs.Faults.{faults, first_fault_from}
use Rattle.rv_unit_laws.proofs.BeforeLemmas.{IsBefore, placed_latest, before_after}
use Rattle.rv_source_laws.specs.Located.{Located, is_placed, located_from}
use Rattle.rv_source_laws.proofs.HeldLemmas.{no_test, no_lowest, no_fault}
use Rattle.rv_assemble_laws.specs.LaidStatements.{LaidStatement}
use Rattle.rv_assemble_laws.proofs.SingleLemmas.{OnlySet, AreNumbers}

-- ---- what a directive leaves alone

set_labels : (t : Tables) (found : Option Assignment) → (with_assignment t found).labels ≡ t.labels
set_labels t None = refl
set_labels t (Some s) = go (may_set t s.ordinal s.name s.meaning)
  where
    go : (b : Bool) → (if b then record t { assignments = s ∷ t.assignments } else t).labels ≡ t.labels
    go true = refl
    go false = refl

directive_labels : (t : Tables) (k : ℕ) (d : Directive) → (after_directive t k d).labels ≡ t.labels
directive_labels t k d =
    (directive_same t k d).0 ∙ set_labels (with_section t (entered_by d)) (assigned_by (value_by_tables t false k (here t)) k d) ∙ (section_same t (entered_by d)).0

module _ (name : List ℕ) (all : List LaidStatement) where
  -- a statement that stands at an ordinal
  abbrev pub Stands : ℕ → StatementKind → Type 0
  Stands o kind = (i : ℕ) × (s : LaidStatement) × (slice_get all i ≡ Some s) × (s.located.ordinal ≡ o) × (s.located.placed ≡ true) × (s.located.kind ≡ kind)

  abbrev pub IsSetAt : ℕ → Type 0
  IsSetAt o = (e : Expression) × Stands o (Directs (Sets name e))

  abbrev pub IsSet : List Assignment → Assignment → Bool → Type 0
  IsSet xs a true = OnlySet name a xs × IsSetAt a.ordinal
  IsSet xs a false = AreNumbers name xs

  -- what tables know of the name
  abbrev pub Is : List Assignment → Option Labelled → Option Assignment → Type 0
  Is xs None None = ⊤
  Is xs (Some l) None = Stands l.ordinal (Label name)
  Is xs None (Some a) = IsSet xs a (is_location a)
  Is xs (Some l) (Some a) = ⊥

  abbrev pub OneName : Tables → Type 0
  OneName t = Is t.assignments (label_of t.labels true 0 name) (assigned_ever t.assignments name)

  moved : (t u : Tables) → Same t u → OneName t → OneName u
  moved t u (l, a) h =
      subst (λ xs. Is xs (label_of u.labels true 0 name) (assigned_ever xs name)) (sym a) (subst (λ ls. Is t.assignments (label_of ls true 0 name) (assigned_ever t.assignments name)) (sym l) h)

  -- ---- a label

  label_after : (t : Tables) (k : ℕ) (n : List ℕ) → IsBefore t k → Stands k (Label n) → OneName t → OneName (with_label t k n)
  label_after t k n before at h = go (is_defined t k n) refl
    where
      new : Labelled
      new = record { name = n; ordinal = k; place = here t }

      more : Tables
      more = record t { labels = t.labels ++ new ∷ [] }

      own : bytes_eq n name ≡ true → is_defined t k n ≡ false → OneName more
      own f e =
          let same : n ≡ name = same_bytes n name f in
          let free = undefined name t k n before f e in
          subst (λ o. Is t.assignments o (assigned_ever t.assignments name)) (sym (own_label name t.labels new free.0 f))
          (subst (λ o. Is t.assignments (Some new) o) (sym free.1) (subst (λ (m : List ℕ). Stands k (Label m)) same at))

      other : bytes_eq n name ≡ false → OneName more
      other f = subst (λ o. Is t.assignments o (assigned_ever t.assignments name)) (sym (other_label name t.labels new f)) h

      named : (b : Bool) → bytes_eq n name ≡ b → is_defined t k n ≡ false → OneName more
      named true f e = own f e
      named false f e = other f

      go : (b : Bool) → is_defined t k n ≡ b → OneName (if b then t else more)
      go true e = h
      go false e = named (bytes_eq n name) refl e

  -- ---- a `.set`

  pub none_all : (P : Assignment → Type 0) (xs : List Assignment) → assigned_ever xs name ≡ None → AllByRecursion (λ x. bytes_eq x.name name ≡ true → P x) xs
  none_all P [] e = tt
  none_all P (x ∷ xs) e = go (bytes_eq x.name name) refl e (none_all P xs)
    where
      go : (b : Bool) → bytes_eq x.name name ≡ b → (if b then Some x else assigned_ever xs name) ≡ None → (assigned_ever xs name ≡ None → AllByRecursion (λ x. bytes_eq x.name name ≡ true → P x) xs)
          → AllByRecursion (λ x. bytes_eq x.name name ≡ true → P x) (x ∷ xs)
      go true f e ih = absurd (cc)
      go false f e ih = (λ g. absurd (cc), ih e)

  -- one of another name
  passed : (s : Assignment) (xs : List Assignment) (l : Option Labelled) (a : Option Assignment) → bytes_eq s.name name ≡ false → Is xs l a → Is (s ∷ xs) l a
  passed s xs None None f h = tt
  passed s xs (Some l) None f h = h
  passed s xs (Some l) (Some a) f h = h
  passed s xs None (Some a) f h = go (is_location a) h
    where
      go : (b : Bool) → IsSet xs a b → IsSet (s ∷ xs) a b
      go true (only, at) = ((λ g. absurd (cc), only), at)
      go false numbers = (λ g. absurd (cc), numbers)

  other_set : (t : Tables) (s : Assignment) → bytes_eq s.name name ≡ false → OneName t → OneName (record t { assignments = s ∷ t.assignments })
  other_set t s f h =
      subst (λ o. Is (s ∷ t.assignments) (label_of t.labels true 0 name) o) (sym (ap (λ b. if b then Some s else assigned_ever t.assignments name) f))
      (passed s t.assignments (label_of t.labels true 0 name) (assigned_ever t.assignments name) f h)

  set_now : (t : Tables) (s : Assignment) → bytes_eq s.name name ≡ true → label_of t.labels true 0 name ≡ None → IsSet (s ∷ t.assignments) s (is_location s) → OneName (record t { assignments = s ∷ t.assignments })
  set_now t s f e h =
      subst (λ o. Is (s ∷ t.assignments) (label_of t.labels true 0 name) o) (sym (ap (λ b. if b then Some s else assigned_ever t.assignments name) f))
      (subst (λ o. Is (s ∷ t.assignments) o (Some s)) (sym e) h)

  numbers_by : (xs : List Assignment) (a : Option Assignment) → assigned_ever xs name ≡ a → placed_latest a ≡ false → Is xs None a → AreNumbers name xs
  numbers_by xs None e f h = none_all (λ x. is_location x ≡ false) xs e
  numbers_by xs (Some a) e f h = subst (IsSet xs a) f h

  module _ (t : Tables) (k : ℕ) (n : List ℕ) (before : IsBefore t k) (known : OneName t) where
    number_after : (x : ℕ) → OneName (with_assignment t (Some (record { name = n; ordinal = k; meaning = Known x; plus = 0 })))
    number_after x = go (may_set t k n (Known x)) refl
      where
        s : Assignment
        s = record { name = n; ordinal = k; meaning = Known x; plus = 0 }

        own : bytes_eq n name ≡ true → has_location t k n ≡ false → OneName (record t { assignments = s ∷ t.assignments })
        own f e =
            let free = unplaced name t k n before f e in
            set_now t s f free.0
            (λ g. refl, numbers_by t.assignments (assigned_ever t.assignments name) refl free.1 (subst (λ o. Is t.assignments o (assigned_ever t.assignments name)) free.0 known))

        named : (b : Bool) → bytes_eq n name ≡ b → has_location t k n ≡ false → OneName (record t { assignments = s ∷ t.assignments })
        named true f e = own f e
        named false f e = other_set t s f known

        go : (b : Bool) → may_set t k n (Known x) ≡ b → OneName (if b then record t { assignments = s ∷ t.assignments } else t)
        go true e = named (bytes_eq n name) refl (not-true (has_location t k n) e)
        go false e = known

    place_after : (section offset plus : ℕ) → ((e : Expression) × Stands k (Directs (Sets n e)))
        → OneName (with_assignment t (Some (record { name = n; ordinal = k; meaning = InSection section offset; plus = plus })))
    place_after section offset plus at = go (may_set t k n (InSection section offset)) refl
      where
        s : Assignment
        s = record { name = n; ordinal = k; meaning = InSection section offset; plus = plus }

        own : bytes_eq n name ≡ true → is_defined t k n ≡ false → OneName (record t { assignments = s ∷ t.assignments })
        own f e =
            let same : n ≡ name = same_bytes n name f in
            let free = undefined name t k n before f e in
            set_now t s f free.0
            ((λ g. refl, none_all (λ x. x ≡ s) t.assignments free.1), subst (λ (m : List ℕ). (e : Expression) × Stands k (Directs (Sets m e))) same at)

        named : (b : Bool) → bytes_eq n name ≡ b → is_defined t k n ≡ false → OneName (record t { assignments = s ∷ t.assignments })
        named true f e = own f e
        named false f e = other_set t s f known

        go : (b : Bool) → may_set t k n (InSection section offset) ≡ b → OneName (if b then record t { assignments = s ∷ t.assignments } else t)
        go true e = named (bytes_eq n name) refl (not-true (is_defined t k n) e)
        go false e = known

    set_after : (e : Expression) (v : Value) → (gives_location (assigned n k v) ≡ true → Stands k (Directs (Sets n e))) → OneName (with_assignment t (assigned n k v))
    set_after e (Constant x) at = number_after x
    set_after e (Symbolic Here (InSection section offset) plus) at = place_after section (add offset plus) plus (e, at refl)
    set_after e (Symbolic Here (Known x) plus) at = known
    set_after e (Symbolic Here Open plus) at = known
    set_after e (Symbolic Here (Refused code) plus) at = known
    set_after e (Symbolic (Literal number) meaning plus) at = known
    set_after e (Symbolic (Symbol symbol) meaning plus) at = known
    set_after e (Symbolic (Reference digits forward) meaning plus) at = known
    set_after e (Difference p q plus) at = known
    set_after e (Faulty code) at = known

  -- ---- any statement

  directive_after : (t : Tables) (k : ℕ) (d : Directive) → IsBefore t k → (is_placed t k (Directs d) ≡ true → Stands k (Directs d)) → OneName t → OneName (after_directive t k d)
  directive_after t k d before at h = moved (with_assignment (with_section t (entered_by d)) (assigned_by (value_by_tables t false k (here t)) k d)) (after_directive t k d) (directive_same t k d) (go d at)
    where
      opened : (d : Directive) → OneName (with_section t (entered_by d))
      opened d = moved t (with_section t (entered_by d)) (section_same t (entered_by d)) h

      go : (d : Directive) → (is_placed t k (Directs d) ≡ true → Stands k (Directs d)) → OneName (with_assignment (with_section t (entered_by d)) (assigned_by (value_by_tables t false k (here t)) k d))
      go (Sets n e) at = set_after t k n before h e (value_by_tables t false k (here t) e) at
      go (Enters section) at = opened (Enters section)
      go (Opens section flags kind) at = opened (Opens section flags kind)
      go (Binds binding names) at = h
      go (Aligns form x) at = h
      go (Emits contents) at = h
      go (Chooses choice) at = h
      go Ignored at = h

  name_after : (t : Tables) (k : ℕ) (kind : StatementKind) → IsBefore t k → (is_placed t k kind ≡ true → Stands k kind) → OneName t → OneName (after t k kind)
  name_after t k (Label n) before at h = label_after t k n before (at refl) h
  name_after t k (Numbered number) before at h = h
  name_after t k (Instruction mnemonic operands) before at h = h
  name_after t k (Directs d) before at h = directive_after t k d before at h

  front : {A : Type 0} (x y : A) (xs ys : List A) → x ∷ xs ≡ y ∷ ys → (x ≡ y) × (xs ≡ ys)
  front x y xs ys e = (cc, cc)

  front_got : {X : Type 0} (xs : List X) (i : ℕ) (x : X) (ys : List X) → drop i xs ≡ x ∷ ys → (slice_get xs i ≡ Some x) × (drop (suc i) xs ≡ ys)
  front_got [] zero x ys e = absurd (cc)
  front_got [] (suc i) x ys e = absurd (cc)
  front_got (z ∷ zs) zero x ys e = (cc, cc)
  front_got (z ∷ zs) (suc i) x ys e = front_got zs i x ys e

  pub one_name : (i k : ℕ) (t : Tables) (ss : List Statement) (laid : List LaidStatement) → drop i all ≡ laid → map (λ s. s.located) laid ≡ located_from 1 k t ss
      → IsBefore t k → OneName t → OneName (after_all t k ss)
  one_name i k t [] laid d e before h = h
  one_name i k t (x ∷ ss) [] d e before h = absurd (cc)
  one_name i k t (x ∷ ss) (s ∷ laid) d e before h =
      let at = front_got all i s laid d in
      let now = (front _ _ _ _ e).0 in
      one_name (suc i) (suc k) (after t k x.kind) ss laid at.1 (front _ _ _ _ e).1 (before_after t k x.kind before)
      (name_after t k x.kind before (λ p. (i, s, at.0, ap (λ (l : Located). l.ordinal) now, ap (λ (l : Located). l.placed) now ∙ p, ap (λ (l : Located). l.kind) now)) h)

-- ---- where a label's statement stands, the label is found

module _ (name : List ℕ) where
  abbrev Finds : Tables → Labelled → Type 0
  Finds t l = label_of t.labels true 0 name ≡ Some l

  finds_after : (t : Tables) (k : ℕ) (kind : StatementKind) (l : Labelled) → Finds t l → Finds (after t k kind) l
  finds_after t k (Label n) l e = go (is_defined t k n)
    where
      new : Labelled
      new = record { name = n; ordinal = k; place = here t }

      go : (b : Bool) → Finds (if b then t else record t { labels = t.labels ++ new ∷ [] }) l
      go true = e
      go false =
          find-append (λ (l : Labelled). bytes_eq l.name name && (true || nat_lt l.ordinal 0)) t.labels (new ∷ []) ∙ ap (λ o. option_or o (label_of (new ∷ []) true 0 name)) e
  finds_after t k (Numbered number) l e = e
  finds_after t k (Instruction mnemonic operands) l e = e
  finds_after t k (Directs d) l e = ap (λ ls. label_of ls true 0 name) (directive_labels t k d) ∙ e

  finds_all : (t : Tables) (k : ℕ) (ss : List Statement) (l : Labelled) → Finds t l → Finds (after_all t k ss) l
  finds_all t k [] l e = e
  finds_all t k (s ∷ ss) l e = finds_all (after t k s.kind) (suc k) ss l (finds_after t k s.kind l e)

  -- a label of the name is the one that is found
  abbrev pub IsFound : Tables → LaidStatement → Type 0
  IsFound all s = (n : List ℕ) → s.located.kind ≡ Label n → bytes_eq n name ≡ true → (l : Labelled) × (label_of all.labels true 0 name ≡ Some l) × (l.ordinal ≡ s.located.ordinal)

  found_now : (all t : Tables) (k : ℕ) (n : List ℕ) → IsBefore t k → faults all t k (Label n) ≡ [] → bytes_eq n name ≡ true → (l : Labelled) × Finds (after t k (Label n)) l × (l.ordinal ≡ k)
  found_now all t k n before free f = (new, go (is_defined t k n) none, refl)
    where
      new : Labelled
      new = record { name = n; ordinal = k; place = here t }

      none : is_defined t k n ≡ false
      none = no_test (is_defined t k n) 11 free

      go : (b : Bool) → b ≡ false → Finds (if b then t else record t { labels = t.labels ++ new ∷ [] }) new
      go true e = absurd (cc)
      go false e = own_label name t.labels new (undefined name t k n before f none).0 f

  pub labels_found : (all : Tables) (k : ℕ) (t : Tables) (ss : List Statement) (laid : List LaidStatement) → map (λ s. s.located) laid ≡ located_from 1 k t ss → first_fault_from all t k ss ≡ None
      → IsBefore t k → after_all t k ss ≡ all → AllByRecursion (IsFound all) laid
  labels_found all k t ss [] e free before same = tt
  labels_found all k t [] (s ∷ laid) e free before same = absurd (cc)
  labels_found all k t (x ∷ ss) (s ∷ laid) e free before same =
      let now = (front _ _ _ _ e).0 in
      let parts = no_fault x.line (lowest (faults all t k x.kind)) (first_fault_from all (after t k x.kind) (suc k) ss) free in (
        λ n is f. (
            let kind : x.kind ≡ Label n = sym (ap (λ (l : Located). l.kind) now) ∙ is in
            let none : faults all t k (Label n) ≡ [] = subst (λ y. faults all t k y ≡ []) kind (no_lowest (faults all t k x.kind) parts.0) in
            let found = found_now all t k n before none f in (
              found.0,
              subst (λ u. Finds u found.0) same (finds_all (after t k x.kind) (suc k) ss found.0 (subst (λ y. Finds (after t k y) found.0) (sym kind) found.1)),
              found.2 ∙ sym (ap (λ (l : Located). l.ordinal) now),
            )
            ),
        labels_found all (suc k) (after t k x.kind) ss laid (front _ _ _ _ e).1 parts.1 (before_after t k x.kind before) same,
      )
    where
      front : {A : Type 0} (x y : A) (xs ys : List A) → x ∷ xs ≡ y ∷ ys → (x ≡ y) × (xs ≡ ys)
      front x y xs ys e = (cc, cc)
