-- What comes later changes nothing of what was defined before.

use Rattle.std.proofs.Common.{◌≡◌, ℕ, suc, ◌<◌, Bool, true, false, cond, ◌&&◌, nat_lt, List, [], ◌∷◌, ◌++◌, refl, sym, ap, ◌∙◌, arith, Option, Some, None}
use Rattle.std.specs.Prelude.{if◌then◌else◌}
use Rattle.std.specs.List.{find}
use Rattle.std.proofs.lemmas.Bool.{ltb-true, lt-ltb, and_right}
use Rattle.rv_list_laws.proofs.FindLemmas.{find_same, find_not_last}
use Rattle.rv_expression_laws.specs.Values.{Known, InSection, Open, Refused, Value, Constant, Symbolic, Difference, Faulty, add}
use Rattle.rv_expression_laws.specs.Expression.{Literal, Symbol, Here, Reference}
use Rattle.rv_statement_laws.specs.Statement.{StatementKind, Label, Numbered, Instruction, Directs, Statement, Expression, Directive, Sets}
use Rattle.rv_statement_laws.specs.declared.directive.Choice.{Choice}
use Rattle.rv_unit_laws.specs.Sections.{Section, entered_by}
use Rattle.rv_unit_laws.specs.Contributions.{Contribution, Nothing, Bytes, Alignment, contribution}
use Rattle.rv_unit_laws.specs.Tables.{Tables, Labelled, NumericLabel, Assignment, here, after, after_directive, after_all, value_by_tables, assigned, assigned_by, choice_in, with_label, with_numeric_label, with_assignment, with_section, with_contribution, with_choice, with_chosen, is_defined, may_set}
use Rattle.rv_unit_laws.proofs.EnteringLemmas.{with_new, entering}

-- of what stands before the ordinal, a search finds the same in both
pub record Keeps (t u : Tables) (o : ℕ) : Type 0 where
  pub assignments : (p : Assignment → Bool) → find (λ s. nat_lt s.ordinal o && p s) u.assignments ≡ find (λ s. nat_lt s.ordinal o && p s) t.assignments
  pub numeric_labels : (p : NumericLabel → Bool) → find (λ m. nat_lt m.ordinal o && p m) u.numeric_labels ≡ find (λ m. nat_lt m.ordinal o && p m) t.numeric_labels
  pub labels : (p : Labelled → Bool) → find (λ l. p l && nat_lt l.ordinal o) u.labels ≡ find (λ l. p l && nat_lt l.ordinal o) t.labels

keeps_more : (t u : Tables) (o : ℕ) → u.assignments ≡ t.assignments → u.numeric_labels ≡ t.numeric_labels
    → ((p : Labelled → Bool) → find (λ l. p l && nat_lt l.ordinal o) u.labels ≡ find (λ l. p l && nat_lt l.ordinal o) t.labels) → Keeps t u o
keeps_more t u o s m l = record {
  assignments = λ p. ap (find (λ s. nat_lt s.ordinal o && p s)) s;
  numeric_labels = λ p. ap (find (λ m. nat_lt m.ordinal o && p m)) m;
  labels = l;
}

keeps_same : (t u : Tables) (o : ℕ) → u.assignments ≡ t.assignments → u.numeric_labels ≡ t.numeric_labels → u.labels ≡ t.labels → Keeps t u o
keeps_same t u o s m l = keeps_more t u o s m (λ p. ap (find (λ l. p l && nat_lt l.ordinal o)) l)

keeps_then : (t u w : Tables) (o : ℕ) → Keeps t u o → Keeps u w o → Keeps t w o
keeps_then t u w o h k = record { assignments = λ p. k.assignments p ∙ h.assignments p; numeric_labels = λ p. k.numeric_labels p ∙ h.numeric_labels p; labels = λ p. k.labels p ∙ h.labels p }

not_before : (o : ℕ) → nat_lt o o ≡ false
not_before o = by (nat_lt o o) refl
  where
    by : (b : Bool) → nat_lt o o ≡ b → b ≡ false
    by true e = absurd (let l : o < o = ltb-true o o e in omega arith)
    by false e = refl

both_before : (a o : ℕ) (b : Bool) → (nat_lt a (suc o) && (nat_lt a o && b)) ≡ (nat_lt a o && b)
both_before a o b = by (nat_lt a o) refl
  where
    other : (c : Bool) → (c && false) ≡ false
    other true = refl
    other false = refl

    by : (c : Bool) → nat_lt a o ≡ c → (nat_lt a (suc o) && (c && b)) ≡ (c && b)
    by true e = ap (λ x. x && b) (let l : a < o = ltb-true a o e in lt-ltb a (suc o) (omega arith))
    by false e = other (nat_lt a (suc o))

both_after : (a o : ℕ) (b : Bool) → ((b && nat_lt a o) && nat_lt a (suc o)) ≡ (b && nat_lt a o)
both_after a o false = refl
both_after a o true = by (nat_lt a o) refl
  where
    by : (c : Bool) → nat_lt a o ≡ c → (c && nat_lt a (suc o)) ≡ c
    by true e = let l : a < o = ltb-true a o e in lt-ltb a (suc o) (omega arith)
    by false e = refl

-- what is kept up to the next ordinal is kept up to this
weaker : (t u : Tables) (o : ℕ) → Keeps t u (suc o) → Keeps t u o
weaker t u o k = record {
  assignments = λ p. sym (find_same (λ s. nat_lt s.ordinal (suc o) && (nat_lt s.ordinal o && p s)) (λ s. nat_lt s.ordinal o && p s) u.assignments (λ s. both_before s.ordinal o (p s)))
      ∙ k.assignments (λ s. nat_lt s.ordinal o && p s)
      ∙ find_same (λ s. nat_lt s.ordinal (suc o) && (nat_lt s.ordinal o && p s)) (λ s. nat_lt s.ordinal o && p s) t.assignments (λ s. both_before s.ordinal o (p s));
  numeric_labels = λ p. sym (find_same (λ m. nat_lt m.ordinal (suc o) && (nat_lt m.ordinal o && p m)) (λ m. nat_lt m.ordinal o && p m) u.numeric_labels (λ m. both_before m.ordinal o (p m)))
      ∙ k.numeric_labels (λ m. nat_lt m.ordinal o && p m)
      ∙ find_same (λ m. nat_lt m.ordinal (suc o) && (nat_lt m.ordinal o && p m)) (λ m. nat_lt m.ordinal o && p m) t.numeric_labels (λ m. both_before m.ordinal o (p m));
  labels = λ p. sym (find_same (λ l. (p l && nat_lt l.ordinal o) && nat_lt l.ordinal (suc o)) (λ l. p l && nat_lt l.ordinal o) u.labels (λ l. both_after l.ordinal o (p l)))
      ∙ k.labels (λ l. p l && nat_lt l.ordinal o)
      ∙ find_same (λ l. (p l && nat_lt l.ordinal o) && nat_lt l.ordinal (suc o)) (λ l. p l && nat_lt l.ordinal o) t.labels (λ l. both_after l.ordinal o (p l));
}

keeps_label : (t : Tables) (o : ℕ) (name : List ℕ) → Keeps t (with_label t o name) o
keeps_label t o name = by (is_defined t o name)
  where
    by : (b : Bool) → Keeps t (if b then t else record t { labels = t.labels ++ record { name = name; ordinal = o; place = here t } ∷ [] }) o
    by true = keeps_same t t o refl refl refl
    by false = keeps_more t (record t { labels = t.labels ++ record { name = name; ordinal = o; place = here t } ∷ [] }) o refl refl
        (λ p. find_not_last (λ l. p l && nat_lt l.ordinal o) t.labels (record { name = name; ordinal = o; place = here t }) (and_right (p (record { name = name; ordinal = o; place = here t })) (nat_lt o o) (not_before o)))

keeps_numeric_label : (t : Tables) (o number : ℕ) → Keeps t (with_numeric_label t o number) o
keeps_numeric_label t o number = record {
  assignments = λ p. refl;
  numeric_labels = λ p. ap (λ b. cond (b && p (record { number = number; ordinal = o; place = here t })) (Some (record { number = number; ordinal = o; place = here t })) (find (λ m. nat_lt m.ordinal o && p m) t.numeric_labels)) (not_before o);
  labels = λ p. refl;
}

keeps_set : (t : Tables) (o : ℕ) (s : Assignment) → s.ordinal ≡ o → Keeps t (with_assignment t (Some s)) o
keeps_set t o s at = by (may_set t s.ordinal s.name s.meaning)
  where
    by : (b : Bool) → Keeps t (if b then record t { assignments = s ∷ t.assignments } else t) o
    by false = keeps_same t t o refl refl refl
    by true = record {
      assignments = λ p. ap (λ b. cond (b && p s) (Some s) (find (λ s. nat_lt s.ordinal o && p s) t.assignments)) (ap (λ a. nat_lt a o) at ∙ not_before o);
      numeric_labels = λ p. refl;
      labels = λ p. refl;
    }

keeps_assignment : (t : Tables) (o : ℕ) (name : List ℕ) (v : Value) → Keeps t (with_assignment t (assigned name o v)) o
keeps_assignment t o name (Constant n) = keeps_set t o (record { name = name; ordinal = o; meaning = Known n; plus = 0 }) refl
keeps_assignment t o name (Symbolic Here (InSection section offset) plus) = keeps_set t o (record { name = name; ordinal = o; meaning = InSection section (add offset plus); plus = plus }) refl
keeps_assignment t o name (Symbolic Here (Known n) plus) = keeps_same t t o refl refl refl
keeps_assignment t o name (Symbolic Here Open plus) = keeps_same t t o refl refl refl
keeps_assignment t o name (Symbolic Here (Refused code) plus) = keeps_same t t o refl refl refl
keeps_assignment t o name (Symbolic (Literal n) at plus) = keeps_same t t o refl refl refl
keeps_assignment t o name (Symbolic (Symbol n) at plus) = keeps_same t t o refl refl refl
keeps_assignment t o name (Symbolic (Reference d f) at plus) = keeps_same t t o refl refl refl
keeps_assignment t o name (Difference p q plus) = keeps_same t t o refl refl refl
keeps_assignment t o name (Faulty code) = keeps_same t t o refl refl refl

keeps_section : (t : Tables) (section : Option Section) (o : ℕ) → Keeps t (with_section t section) o
keeps_section t None o = keeps_same t t o refl refl refl
keeps_section t (Some section) o =
    entering (λ (u : Tables). Keeps t u o) t section (λ n at. keeps_same t (record t { current = n }) o refl refl refl) (λ room. keeps_same t (with_new t section) o refl refl refl) (keeps_same t t o refl refl refl)

keeps_named : (t : Tables) (o : ℕ) (v : Expression → Value) (d : Directive) → Keeps t (with_assignment t (assigned_by v o d)) o
keeps_named t o v (Sets name e) = keeps_assignment t o name (v e)
keeps_named t o v _ = keeps_same t t o refl refl refl

keeps_choice : (t : Tables) (choice : Choice) (o : ℕ) → Keeps t (with_choice t choice) o
keeps_choice t choice o = keeps_same t (with_choice t choice) o refl refl refl

keeps_chosen : (t : Tables) (found : Option Choice) (o : ℕ) → Keeps t (with_chosen t found) o
keeps_chosen t None o = keeps_same t t o refl refl refl
keeps_chosen t (Some choice) o = keeps_choice t choice o

keeps_contribution : (t : Tables) (v : Expression → Value) (c : Contribution) (o : ℕ) → Keeps t (with_contribution t v c) o
keeps_contribution t v Nothing o = keeps_same t t o refl refl refl
keeps_contribution t v (Bytes contents) o = keeps_same t (with_contribution t v (Bytes contents)) o refl refl refl
keeps_contribution t v (Alignment form number) o = keeps_same t (with_contribution t v (Alignment form number)) o refl refl refl

keeps_directive : (t : Tables) (o : ℕ) (d : Directive) → Keeps t (after_directive t o d) o
keeps_directive t o d =
    let v : Expression → Value = value_by_tables t false o (here t) in
    let entered = with_section t (entered_by d) in
    let named = with_assignment entered (assigned_by v o d) in
    let chose = with_chosen named (choice_in d) in
    let contributed = with_contribution chose v (contribution d) in
    keeps_then t chose contributed o
    (keeps_then t named chose o (keeps_then t entered named o (keeps_section t (entered_by d) o) (keeps_named entered o v d)) (keeps_chosen named (choice_in d) o))
    (keeps_contribution chose v (contribution d) o)

keeps_after : (t : Tables) (o : ℕ) (s : StatementKind) → Keeps t (after t o s) o
keeps_after t o (Label name) = keeps_label t o name
keeps_after t o (Numbered number) = keeps_numeric_label t o number
keeps_after t o (Instruction mnemonic operands) = keeps_same t t o refl refl refl
keeps_after t o (Directs d) = keeps_directive t o d

-- all statements that follow keep what is before them
pub keeps_all : (t : Tables) (o : ℕ) (ss : List Statement) → Keeps t (after_all t o ss) o
keeps_all t o [] = keeps_same t t o refl refl refl
keeps_all t o (s ∷ ss) =
    let now = after t o s.kind in
    let last = after_all now (suc o) ss in
    keeps_then t now last o (keeps_after t o s.kind) (weaker now last o (keeps_all now (suc o) ss))
