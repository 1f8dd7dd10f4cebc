-- A name that is a label is no assignment, so a label stands where its statement stands.

use Rattle.std.proofs.Common.{◌≡◌, ℕ, suc, Bool, true, false, List, [], ◌∷◌, ◌++◌, refl, sym, ap, ◌∙◌, subst, Option, Some, None}
use Rattle.std.specs.Prelude.{⊤, ◌&&◌, nat_lt, is_some, if◌then◌else◌}
use Rattle.std.specs.Str.{bytes_eq}
use Rattle.std.proofs.lemmas.Bool.{not-true}
use Rattle.rv_expression_laws.specs.Bytes.{digits_value}
use Rattle.rv_expression_laws.specs.Expression.{Primary, Literal, Symbol, Here, Reference}
use Rattle.rv_expression_laws.specs.Values.{Known, InSection, Open, Refused, Value, Constant, Symbolic, Difference, Faulty, add}
use Rattle.rv_statement_laws.specs.Statement.{StatementKind, Label, Numbered, Instruction, Directs, Statement, Directive, Enters, Opens, Binds, Sets, Chooses, Ignored, Aligns, Emits}
use Rattle.rv_unit_laws.specs.Sections.{entered_by}
use Rattle.rv_unit_laws.specs.Tables.{Tables, Labelled, NumericLabel, Assignment, Definition, here, value_by_tables, label_of, assigned_before, assigned_ever, is_defined, has_location, may_set, assigned, assigned_by, with_assignment, with_label, with_section, after_directive, after, after_all, at_start, tables, definition, assigned_definition, first_definition, labelled_definition, numeric_definition, numeric_label_after, numeric_label_before}
use Rattle.rv_unit_laws.proofs.AloneLemmas.{Same, section_same, directive_same, other_label, undefined, unplaced}
use Rattle.rv_unit_laws.proofs.BeforeLemmas.{IsBefore, before_after, before_start}
use Rattle.rv_assemble_laws.specs.InstructionFaults.{is_label}

module _ (name : List ℕ) where
  -- a label of the name, and an assignment of it: not both
  abbrev NotBoth : Option Labelled → Option Assignment → Type 0
  NotBoth None a = ⊤
  NotBoth (Some l) None = ⊤
  NotBoth (Some l) (Some a) = ⊥

  abbrev OneName : Tables → Type 0
  OneName t = NotBoth (label_of t.labels true 0 name) (assigned_ever t.assignments name)

  unset : (l : Option Labelled) → NotBoth l None
  unset None = tt
  unset (Some l) = tt

  moved : (t u : Tables) → Same t u → OneName t → OneName u
  moved t u (l, a) h =
      subst (λ xs. NotBoth (label_of u.labels true 0 name) (assigned_ever xs name)) (sym a) (subst (λ ls. NotBoth (label_of ls true 0 name) (assigned_ever t.assignments name)) (sym l) h)

  -- ---- a label

  label_after : (t : Tables) (k : ℕ) (n : List ℕ) → IsBefore t k → OneName t → OneName (with_label t k n)
  label_after t k n before h = go (is_defined t k n) refl
    where
      new : Labelled
      new = record { name = n; ordinal = k; place = here t }

      more : Tables
      more = record t { labels = t.labels ++ new ∷ [] }

      own : bytes_eq n name ≡ true → is_defined t k n ≡ false → OneName more
      own f e =
          subst (λ o. NotBoth (label_of more.labels true 0 name) o) (sym (undefined name t k n before f e).1) (unset (label_of more.labels true 0 name))

      other : bytes_eq n name ≡ false → OneName more
      other f = subst (λ o. NotBoth o (assigned_ever t.assignments name)) (sym (other_label name t.labels new f)) h

      named : (b : Bool) → bytes_eq n name ≡ b → is_defined t k n ≡ false → OneName more
      named true f e = own f e
      named false f e = other f

      go : (b : Bool) → is_defined t k n ≡ b → OneName (if b then t else more)
      go true e = h
      go false e = named (bytes_eq n name) refl e

  -- ---- a `.set`

  other_set : (t : Tables) (s : Assignment) → bytes_eq s.name name ≡ false → OneName t → OneName (record t { assignments = s ∷ t.assignments })
  other_set t s f h =
      subst (λ o. NotBoth (label_of t.labels true 0 name) o) (sym (ap (λ b. if b then Some s else assigned_ever t.assignments name) f)) h

  unlabelled : (t : Tables) (s : Assignment) → label_of t.labels true 0 name ≡ None → OneName (record t { assignments = s ∷ t.assignments })
  unlabelled t s e = subst (λ o. NotBoth o (assigned_ever (s ∷ t.assignments) name)) (sym e) tt

  module _ (t : Tables) (k : ℕ) (n : List ℕ) (before : IsBefore t k) (known : OneName t) where
    number_after : (x : ℕ) → OneName (with_assignment t (Some (record { name = n; ordinal = k; meaning = Known x; plus = 0 })))
    number_after x = go (may_set t k n (Known x)) refl
      where
        s : Assignment
        s = record { name = n; ordinal = k; meaning = Known x; plus = 0 }

        named : (b : Bool) → bytes_eq n name ≡ b → has_location t k n ≡ false → OneName (record t { assignments = s ∷ t.assignments })
        named true f e = unlabelled t s (unplaced name t k n before f e).0
        named false f e = other_set t s f known

        go : (b : Bool) → may_set t k n (Known x) ≡ b → OneName (if b then record t { assignments = s ∷ t.assignments } else t)
        go true e = named (bytes_eq n name) refl (not-true (has_location t k n) e)
        go false e = known

    place_after : (section offset plus : ℕ) → OneName (with_assignment t (Some (record { name = n; ordinal = k; meaning = InSection section offset; plus = plus })))
    place_after section offset plus = go (may_set t k n (InSection section offset)) refl
      where
        s : Assignment
        s = record { name = n; ordinal = k; meaning = InSection section offset; plus = plus }

        named : (b : Bool) → bytes_eq n name ≡ b → is_defined t k n ≡ false → OneName (record t { assignments = s ∷ t.assignments })
        named true f e = unlabelled t s (undefined name t k n before f e).0
        named false f e = other_set t s f known

        go : (b : Bool) → may_set t k n (InSection section offset) ≡ b → OneName (if b then record t { assignments = s ∷ t.assignments } else t)
        go true e = named (bytes_eq n name) refl (not-true (is_defined t k n) e)
        go false e = known

    set_after : (v : Value) → OneName (with_assignment t (assigned n k v))
    set_after (Constant x) = number_after x
    set_after (Symbolic Here (InSection section offset) plus) = place_after section (add offset plus) plus
    set_after (Symbolic Here (Known x) plus) = known
    set_after (Symbolic Here Open plus) = known
    set_after (Symbolic Here (Refused code) plus) = known
    set_after (Symbolic (Literal number) meaning plus) = known
    set_after (Symbolic (Symbol symbol) meaning plus) = known
    set_after (Symbolic (Reference digits forward) meaning plus) = known
    set_after (Difference p q plus) = known
    set_after (Faulty code) = known

  -- ---- any statement

  directive_after : (t : Tables) (k : ℕ) (d : Directive) → IsBefore t k → OneName t → OneName (after_directive t k d)
  directive_after t k d before h = moved (with_assignment (with_section t (entered_by d)) (assigned_by (value_by_tables t false k (here t)) k d)) (after_directive t k d) (directive_same t k d) (go d)
    where
      opened : (d : Directive) → OneName (with_section t (entered_by d))
      opened d = moved t (with_section t (entered_by d)) (section_same t (entered_by d)) h

      go : (d : Directive) → OneName (with_assignment (with_section t (entered_by d)) (assigned_by (value_by_tables t false k (here t)) k d))
      go (Sets n e) = set_after t k n before h (value_by_tables t false k (here t) e)
      go (Enters section) = opened (Enters section)
      go (Opens section flags kind) = opened (Opens section flags kind)
      go (Binds binding names) = h
      go (Aligns form x) = h
      go (Emits contents) = h
      go (Chooses choice) = h
      go Ignored = h

  name_after : (t : Tables) (k : ℕ) (kind : StatementKind) → IsBefore t k → OneName t → OneName (after t k kind)
  name_after t k (Label n) before h = label_after t k n before h
  name_after t k (Numbered number) before h = h
  name_after t k (Instruction mnemonic operands) before h = h
  name_after t k (Directs d) before h = directive_after t k d before h

  one_name : (k : ℕ) (t : Tables) (ss : List Statement) → IsBefore t k → OneName t → OneName (after_all t k ss)
  one_name k t [] before h = h
  one_name k t (x ∷ ss) before h = one_name (suc k) (after t k x.kind) ss (before_after t k x.kind before) (name_after t k x.kind before h)

  -- ---- its definition

  never_before : (xs : List Assignment) (ordinal : ℕ) → assigned_ever xs name ≡ None → assigned_before xs ordinal name ≡ None
  never_before [] ordinal e = refl
  never_before (x ∷ xs) ordinal e = go (nat_lt x.ordinal ordinal) (bytes_eq x.name name) e (never_before xs ordinal)
    where
      go : (a b : Bool) → (if b then Some x else assigned_ever xs name) ≡ None → (assigned_ever xs name ≡ None → assigned_before xs ordinal name ≡ None)
          → (if a && b then Some x else assigned_before xs ordinal name) ≡ None
      go a true f ih = absurd (cc)
      go true false f ih = ih f
      go false false f ih = ih f

  label_alone : (t : Tables) → OneName t → (ordinal : ℕ) (d : Definition) → is_label t ordinal (Symbol name) ≡ true → definition t ordinal (Symbol name) ≡ Some d → d.plus ≡ 0
  label_alone t h ordinal d is_one defined = go (label_of t.labels true 0 name) refl (assigned_ever t.assignments name) refl is_one h
    where
      go : (l : Option Labelled) → label_of t.labels true 0 name ≡ l → (a : Option Assignment) → assigned_ever t.assignments name ≡ a → is_some l ≡ true → NotBoth l a → d.plus ≡ 0
      go None e a f some both = absurd (cc)
      go (Some l) e (Some a) f some both = absurd both
      go (Some l) e None f some both =
          let by_label : definition t ordinal (Symbol name) ≡ Some (record { ordinal = l.ordinal; plus = 0 }) =
          ap (λ x. first_definition (assigned_definition x) (labelled_definition (label_of t.labels true 0 name) (assigned_definition (assigned_ever t.assignments name)))) (never_before t.assignments ordinal f)
          ∙ ap (λ x. labelled_definition x (assigned_definition (assigned_ever t.assignments name))) e in
          let both_are : Some (record { ordinal = l.ordinal; plus = 0 }) ≡ Some d = sym by_label ∙ defined in
          let same : record { ordinal = l.ordinal; plus = 0 } ≡ d = cc in
          sym (ap (λ (d : Definition). d.plus) same)

numeric_alone : (m : Option NumericLabel) (d : Definition) → numeric_definition m ≡ Some d → d.plus ≡ 0
numeric_alone None d e = absurd (cc)
numeric_alone (Some m) d e =
    let same : record { ordinal = m.ordinal; plus = 0 } ≡ d = cc in sym (ap (λ (d : Definition). d.plus) same)

pub labels_stand : (ss : List Statement) (ordinal : ℕ) (q : Primary) (d : Definition) → is_label (tables ss) ordinal q ≡ true → definition (tables ss) ordinal q ≡ Some d → d.plus ≡ 0
labels_stand ss ordinal (Symbol name) d is_one defined = label_alone name (tables ss) (one_name name 1 (at_start ss) ss (before_start ss 1) tt) ordinal d is_one defined
labels_stand ss ordinal (Literal n) d is_one defined = absurd (cc)
labels_stand ss ordinal Here d is_one defined = absurd (cc)
labels_stand ss ordinal (Reference digits true) d is_one defined = numeric_alone (numeric_label_after (tables ss).numeric_labels ordinal (digits_value 10 digits)) d defined
labels_stand ss ordinal (Reference digits false) d is_one defined = numeric_alone (numeric_label_before (tables ss).numeric_labels ordinal (digits_value 10 digits)) d defined
