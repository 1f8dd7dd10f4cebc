-- No name is both that of a label and one that is set.

use Rattle.std.proofs.Common.{◌≡◌, ℕ, suc, Bool, true, false, cond, ◌&&◌, ◌||◌, nat_lt, List, [], ◌∷◌, ◌++◌, refl, sym, ap, ◌∙◌, subst, ◌⊎◌, inl, inr, Option, Some, None}
use Rattle.std.specs.Prelude.{is_some, if◌then◌else◌}
use Rattle.std.specs.Str.{bytes_eq}
use Rattle.std.proofs.lemmas.Bool.{not-true}
use Rattle.rv_expression_laws.specs.Expression.{Literal, Symbol, Here, Reference}
use Rattle.rv_expression_laws.specs.Values.{Meaning, Known, InSection, Open, Refused, Value, Constant, Symbolic, Difference, Faulty, add}
use Rattle.rv_statement_laws.specs.Statement.{StatementKind, Label, Numbered, Instruction, Directs, Statement, Expression, Directive, Sets}
use Rattle.rv_unit_laws.specs.Sections.{entered_by}
use Rattle.rv_unit_laws.specs.Tables.{Tables, Labelled, Assignment, here, value_by_tables, opened_of, stands, label_of, assigned_before, assigned_ever, assigned_first, assigned_later, labelled, own_named, assigned, assigned_by, is_defined, has_location, may_set, with_assignment, with_label, with_section, after_directive, after, after_all, at_start, tables, Definition, definition_at, assigned_definition, labelled_definition, first_definition}
use Rattle.rv_unit_laws.proofs.AloneLemmas.{section_same, directive_same, other_label, undefined, unplaced}
use Rattle.rv_unit_laws.proofs.BeforeLemmas.{IsBefore, before_after, before_start, label_below, below, before_section as entered_before}
use Rattle.rv_unit.specs.declared.unit.Unit.{Unit as SourceUnit}
use Rattle.rv_unit.specs.Tables.{tables_of}
use Rattle.rv_unit.specs.Unit.{said, IsApart, IsFilled}

-- ---- statement by statement

apart_same : (t u : Tables) → u.labels ≡ t.labels → u.assignments ≡ t.assignments → IsApart t → IsApart u
apart_same t u l a h = λ name. go name (h name)
  where
    go : (name : List ℕ) → (label_of t.labels true 0 name ≡ None) ⊎ (assigned_ever t.assignments name ≡ None) → (label_of u.labels true 0 name ≡ None) ⊎ (assigned_ever u.assignments name ≡ None)
    go name (inl e) = inl (ap (λ ls. label_of ls true 0 name) l ∙ e)
    go name (inr e) = inr (ap (λ ss. assigned_ever ss name) a ∙ e)

apart_label : (t : Tables) (o : ℕ) (n : List ℕ) → IsBefore t o → IsApart t → IsApart (with_label t o n)
apart_label t o n before h = by (is_defined t o n) refl
  where
    new : Labelled
    new = record { name = n; ordinal = o; place = here t }

    one : (name : List ℕ) (b : Bool) → is_defined t o n ≡ false → bytes_eq n name ≡ b → (label_of t.labels true 0 name ≡ None) ⊎ (assigned_ever t.assignments name ≡ None)
        → (label_of (t.labels ++ new ∷ []) true 0 name ≡ None) ⊎ (assigned_ever t.assignments name ≡ None)
    one name true free same either = inr (undefined name t o n before same free).1
    one name false free other (inl e) = inl (other_label name t.labels new other ∙ e)
    one name false free other (inr e) = inr e

    by : (b : Bool) → is_defined t o n ≡ b → IsApart (if b then t else record t { labels = t.labels ++ record { name = n; ordinal = o; place = here t } ∷ [] })
    by true e = h
    by false e = λ name. one name (bytes_eq n name) e refl (h name)

-- a name that may be set has no label
free_name : (t : Tables) (o : ℕ) (n name : List ℕ) (m : Meaning) → IsBefore t o → bytes_eq n name ≡ true → may_set t o n m ≡ true → label_of t.labels true 0 name ≡ None
free_name t o n name (InSection section offset) before same may = (undefined name t o n before same (not-true (is_defined t o n) may)).0
free_name t o n name (Known k) before same may = (unplaced name t o n before same (not-true (has_location t o n) may)).0
free_name t o n name Open before same may = (unplaced name t o n before same (not-true (has_location t o n) may)).0
free_name t o n name (Refused code) before same may = (unplaced name t o n before same (not-true (has_location t o n) may)).0

apart_set : (t : Tables) (o : ℕ) (s : Assignment) → s.ordinal ≡ o → IsBefore t o → IsApart t → IsApart (with_assignment t (Some s))
apart_set t o s at before h = by (may_set t s.ordinal s.name s.meaning) refl
  where
    one : (name : List ℕ) (b : Bool) → may_set t s.ordinal s.name s.meaning ≡ true → bytes_eq s.name name ≡ b → (label_of t.labels true 0 name ≡ None) ⊎ (assigned_ever t.assignments name ≡ None)
        → (label_of t.labels true 0 name ≡ None) ⊎ (assigned_ever (s ∷ t.assignments) name ≡ None)
    one name true may same either = inl (free_name t s.ordinal s.name name s.meaning (subst (IsBefore t) (sym at) before) same may)
    one name false may other (inl e) = inl e
    one name false may other (inr e) = inr (ap (λ b. cond b (Some s) (assigned_ever t.assignments name)) other ∙ e)

    by : (b : Bool) → may_set t s.ordinal s.name s.meaning ≡ b → IsApart (if b then record t { assignments = s ∷ t.assignments } else t)
    by false e = h
    by true e = λ name. one name (bytes_eq s.name name) e refl (h name)

apart_assigned : (t : Tables) (o : ℕ) (name : List ℕ) (v : Value) → IsBefore t o → IsApart t → IsApart (with_assignment t (assigned name o v))
apart_assigned t o name (Constant n) before h = apart_set t o (record { name = name; ordinal = o; meaning = Known n; plus = 0 }) refl before h
apart_assigned t o name (Symbolic Here (InSection section offset) plus) before h = apart_set t o (record { name = name; ordinal = o; meaning = InSection section (add offset plus); plus = plus }) refl before h
apart_assigned t o name (Symbolic Here (Known n) plus) before h = h
apart_assigned t o name (Symbolic Here Open plus) before h = h
apart_assigned t o name (Symbolic Here (Refused code) plus) before h = h
apart_assigned t o name (Symbolic (Literal n) at plus) before h = h
apart_assigned t o name (Symbolic (Symbol n) at plus) before h = h
apart_assigned t o name (Symbolic (Reference d f) at plus) before h = h
apart_assigned t o name (Difference p q plus) before h = h
apart_assigned t o name (Faulty code) before h = h

apart_named : (t : Tables) (o : ℕ) (v : Expression → Value) (d : Directive) → IsBefore t o → IsApart t → IsApart (with_assignment t (assigned_by v o d))
apart_named t o v (Sets name e) before h = apart_assigned t o name (v e) before h
apart_named t o v _ before h = h

apart_directive : (t : Tables) (o : ℕ) (d : Directive) → IsBefore t o → IsApart t → IsApart (after_directive t o d)
apart_directive t o d before h =
    let v : Expression → Value = value_by_tables t false o (here t) in
    let entered = with_section t (entered_by d) in
    let named = with_assignment entered (assigned_by v o d) in
    let opens = section_same t (entered_by d) in
    let keeps = directive_same t o d in
    apart_same named (after_directive t o d) keeps.0 keeps.1
    (apart_named entered o v d (entered_before t (entered_by d) o before) (apart_same t entered opens.0 opens.1 h))

apart_after : (t : Tables) (o : ℕ) (s : StatementKind) → IsBefore t o → IsApart t → IsApart (after t o s)
apart_after t o (Label name) before h = apart_label t o name before h
apart_after t o (Numbered number) before h = h
apart_after t o (Instruction mnemonic operands) before h = h
apart_after t o (Directs d) before h = apart_directive t o d before h

apart_all : (t : Tables) (o : ℕ) (ss : List Statement) → IsBefore t o → IsApart t → IsApart (after_all t o ss)
apart_all t o [] before h = h
apart_all t o (s ∷ ss) before h = apart_all (after t o s.kind) (suc o) ss (before_after t o s.kind before) (apart_after t o s.kind before h)

-- the names of a unit
pub whole_apart : (u : SourceUnit) → IsFilled u → IsApart (tables_of u.tables)
whole_apart u f = subst IsApart (sym f.tables) (apart_all (at_start (said u)) 1 (said u) (before_start (said u) 1) (λ name. inl refl))

-- ---- what a name is, by its label first

none_before : (ss : List Assignment) (o : ℕ) (name : List ℕ) → assigned_ever ss name ≡ None → assigned_before ss o name ≡ None
none_before [] o name e = refl
none_before (s ∷ ss) o name e = by (bytes_eq s.name name) (nat_lt s.ordinal o) (none_before ss o name) e
  where
    by : (b c : Bool) → (assigned_ever ss name ≡ None → assigned_before ss o name ≡ None) → cond b (Some s) (assigned_ever ss name) ≡ None → cond (c && b) (Some s) (assigned_before ss o name) ≡ None
    by true c rest e = absurd (cc)
    by false true rest e = rest e
    by false false rest e = rest e

-- a label is not set
pub label_unset : (t : Tables) (o : ℕ) (name : List ℕ) (l : Labelled) → IsApart t → label_of t.labels true 0 name ≡ Some l → assigned_before t.assignments o name ≡ None
label_unset t o name l apart found = go (apart name)
  where
    go : (label_of t.labels true 0 name ≡ None) ⊎ (assigned_ever t.assignments name ≡ None) → assigned_before t.assignments o name ≡ None
    go (inl e) = absurd (let s : ◌≡◌ {A = Option Labelled} (Some l) None = sym found ∙ e in cc)
    go (inr e) = none_before t.assignments o name e

pub named_label : (t : Tables) (o : ℕ) (name : List ℕ) (l : Labelled) → IsApart t → label_of t.labels true 0 name ≡ Some l → own_named t true o name ≡ stands (opened_of t) l.place
named_label t o name l apart found =
    ap (λ f. assigned_first f (labelled (opened_of t) (label_of t.labels true 0 name) (assigned_later true (assigned_ever t.assignments name)))) (label_unset t o name l apart found)
    ∙ ap (λ f. labelled (opened_of t) f (assigned_later true (assigned_ever t.assignments name))) found

pub named_unlabelled : (t : Tables) (o : ℕ) (name : List ℕ) → label_of t.labels true 0 name ≡ None
    → own_named t true o name ≡ assigned_first (assigned_before t.assignments o name) (assigned_later true (assigned_ever t.assignments name))
named_unlabelled t o name none =
    ap (λ f. assigned_first (assigned_before t.assignments o name) (labelled (opened_of t) f (assigned_later true (assigned_ever t.assignments name)))) none

abbrev pub name_definition : Tables → ℕ → List ℕ → Option Definition
name_definition t o name =
    first_definition (assigned_definition (assigned_before t.assignments o name))
    (labelled_definition (label_of t.labels true 0 name) (assigned_definition (assigned_ever t.assignments name)))

pub defined_label : (t : Tables) (o : ℕ) (name : List ℕ) (l : Labelled) → IsApart t → label_of t.labels true 0 name ≡ Some l → name_definition t o name ≡ Some (definition_at l.ordinal)
defined_label t o name l apart found =
    ap (λ f. first_definition (assigned_definition f) (labelled_definition (label_of t.labels true 0 name) (assigned_definition (assigned_ever t.assignments name)))) (label_unset t o name l apart found)
    ∙ ap (λ f. labelled_definition f (assigned_definition (assigned_ever t.assignments name))) found

pub defined_unlabelled : (t : Tables) (o : ℕ) (name : List ℕ) → label_of t.labels true 0 name ≡ None
    → name_definition t o name ≡ first_definition (assigned_definition (assigned_before t.assignments o name)) (assigned_definition (assigned_ever t.assignments name))
defined_unlabelled t o name none =
    ap (λ f. first_definition (assigned_definition (assigned_before t.assignments o name)) (labelled_definition f (assigned_definition (assigned_ever t.assignments name)))) none

-- whether a name is defined before an ordinal
pub label_defined : (t : Tables) (o at : ℕ) (name : List ℕ) (l : Labelled) → IsBefore t o → IsApart t → label_of t.labels true 0 name ≡ Some l → is_defined t at name ≡ nat_lt l.ordinal at
label_defined t o at name l before apart found =
    ap (λ f. is_some (label_of t.labels false at name) || is_some f) (label_unset t at name l apart found)
    ∙ ap (λ f. is_some f || false) (label_below t o at name before ∙ ap (below (λ (k : Labelled). k.ordinal) at) found)
    ∙ by (nat_lt l.ordinal at)
  where
    by : (b : Bool) → (is_some (if b then Some l else None) || false) ≡ b
    by true = refl
    by false = refl

pub other_defined : (t : Tables) (o at : ℕ) (name : List ℕ) → IsBefore t o → label_of t.labels true 0 name ≡ None → is_defined t at name ≡ is_some (assigned_before t.assignments at name)
other_defined t o at name before none =
    ap (λ f. is_some f || is_some (assigned_before t.assignments at name)) (label_below t o at name before ∙ ap (below (λ (k : Labelled). k.ordinal) at) none)
