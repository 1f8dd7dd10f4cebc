-- What tables have so far was defined before the next statement.

use Rattle.std.proofs.Common.{◌≡◌, ℕ, suc, ◌+◌, ◌<◌, ◌≤◌, Bool, true, false, cond, ◌&&◌, ◌||◌, ◌==◌, nat_lt, List, [], ◌∷◌, ◌++◌, length, add-zero, refl, sym, ap, ◌∙◌, subst, arith, Option, Some, None}
use Rattle.std.specs.Prelude.{not, is_some, if◌then◌else◌}
use Rattle.std.specs.List.{find, list_all, list_any}
use Rattle.std.specs.Str.{bytes_eq}
use Rattle.std.proofs.lemmas.Bool.{ltb-true, ltb-false, lt-ltb, and_parts}
use Rattle.std.proofs.lemmas.List.Folds.{list_all-append}
use Rattle.rv_list_laws.proofs.FindLemmas.{find_all, find_all_swapped, find_none_by}
use Rattle.rv_list_laws.proofs.TestsLemmas.{any_all, all_weaker, any_same}
use Rattle.rv_list_laws.proofs.ElementsLemmas.{same_bytes}
use Rattle.rv_expression_laws.specs.Values.{Meaning, Known, InSection, Open, Refused, Value, Constant, Symbolic, Difference, Faulty, add}
use Rattle.rv_expression_laws.specs.Expression.{Literal, Symbol, Here, Reference}
use Rattle.rv_statement_laws.specs.Statement.{StatementKind, Label, Numbered, Instruction, Directs, Statement, Expression, Directive, Sets}
use Rattle.rv_statement_laws.specs.declared.directive.Choice.{Choice}
use Rattle.rv_unit_laws.specs.Sections.{Section, entered_by}
use Rattle.rv_unit_laws.specs.Contributions.{Contribution, Nothing, Bytes, Alignment, contribution}
use Rattle.rv_unit_laws.specs.Tables.{Tables, Labelled, NumericLabel, Assignment, at_start, here, after, after_directive, after_all, value_by_tables, assigned, assigned_by, choice_in, with_label, with_numeric_label, with_assignment, with_section, with_contribution, with_choice, with_chosen, label_of, assigned_before, assigned_ever, has_location, is_defined, may_set, is_location, gives_location}
use Rattle.rv_unit_laws.proofs.EnteringLemmas.{with_new, entering}
pub use Rattle.rv_unit_laws.specs.Tables.{gives_location as placed_latest}

abbrev pub all_labels : ℕ → List Labelled → Bool
all_labels o labels = list_all (λ l. nat_lt l.ordinal o) labels

abbrev pub all_numeric_labels : ℕ → List NumericLabel → Bool
all_numeric_labels o numeric_labels = list_all (λ m. nat_lt m.ordinal o) numeric_labels

abbrev pub all_assignments : ℕ → List Assignment → Bool
all_assignments o assignments = list_all (λ s. nat_lt s.ordinal o) assignments

abbrev pub placed_ever : List Assignment → List ℕ → Bool
placed_ever assignments name = list_any (λ s. bytes_eq s.name name && is_location s) assignments

-- each has a lower number than those after it in the list, and each a higher one
abbrev pub rises : {X : Type 0} → (X → ℕ) → List X → Bool
rises at [] = true
rises at (x ∷ xs) = list_all (λ y. nat_lt (at x) (at y)) xs && rises at xs

abbrev pub falls : {X : Type 0} → (X → ℕ) → List X → Bool
falls at [] = true
falls at (x ∷ xs) = list_all (λ y. nat_lt (at y) (at x)) xs && falls at xs

-- names, numeric labels and assignments stand before the ordinal, labels with the latest last, numeric labels and assignments
-- with the latest first; a name that was ever a location still is
pub record IsBefore (t : Tables) (o : ℕ) : Type 0 where
  pub labels : all_labels o t.labels ≡ true
  pub labels_rise : rises (λ (l : Labelled). l.ordinal) t.labels ≡ true
  pub numeric_labels : all_numeric_labels o t.numeric_labels ≡ true
  pub numeric_labels_fall : falls (λ (m : NumericLabel). m.ordinal) t.numeric_labels ≡ true
  pub assignments : all_assignments o t.assignments ≡ true
  pub assignments_fall : falls (λ (s : Assignment). s.ordinal) t.assignments ≡ true
  pub placed : (name : List ℕ) → placed_ever t.assignments name ≡ gives_location (assigned_ever t.assignments name)

next : (a o : ℕ) → nat_lt a o ≡ true → nat_lt a (suc o) ≡ true
next a o h = let l : a < o = ltb-true a o h in lt-ltb a (suc o) (omega arith)

now : (o : ℕ) → nat_lt o (suc o) ≡ true
now o = lt-ltb o (suc o) (omega arith)

-- the same tables before the next ordinal
pub before_next : (t : Tables) (o : ℕ) → IsBefore t o → IsBefore t (suc o)
before_next t o h = record {
  labels = all_weaker (λ l. nat_lt l.ordinal o) (λ l. nat_lt l.ordinal (suc o)) t.labels (λ l. next l.ordinal o) h.labels;
  labels_rise = h.labels_rise;
  numeric_labels = all_weaker (λ m. nat_lt m.ordinal o) (λ m. nat_lt m.ordinal (suc o)) t.numeric_labels (λ m. next m.ordinal o) h.numeric_labels;
  numeric_labels_fall = h.numeric_labels_fall;
  assignments = all_weaker (λ s. nat_lt s.ordinal o) (λ s. nat_lt s.ordinal (suc o)) t.assignments (λ s. next s.ordinal o) h.assignments;
  assignments_fall = h.assignments_fall;
  placed = h.placed;
}

-- what a statement before sees: labels, assignments
pub label_before : (t : Tables) (o : ℕ) (name : List ℕ) → IsBefore t o → label_of t.labels false o name ≡ label_of t.labels true 0 name
label_before t o name h =
    find_all_swapped (λ l. bytes_eq l.name name) (λ l. nat_lt l.ordinal o) t.labels h.labels
    ∙ sym (find_all_swapped (λ l. bytes_eq l.name name) (λ l. true) t.labels (all_weaker (λ l. nat_lt l.ordinal o) (λ l. true) t.labels (λ l _. refl) h.labels))

pub set_now : (t : Tables) (o : ℕ) (name : List ℕ) → IsBefore t o → assigned_before t.assignments o name ≡ assigned_ever t.assignments name
set_now t o name h = find_all (λ s. bytes_eq s.name name) (λ s. nat_lt s.ordinal o) t.assignments h.assignments

-- what was found, if it stands before the ordinal
abbrev pub below : {X : Type 0} → (X → ℕ) → ℕ → Option X → Option X
below at o None = None
below at o (Some x) = if nat_lt (at x) o then Some x else None

-- of what rises, a search below an ordinal finds what a search finds, or nothing
find_below : {X : Type 0} (at : X → ℕ) (o : ℕ) (p : X → Bool) (xs : List X) → rises at xs ≡ true → find (λ x. p x && nat_lt (at x) o) xs ≡ below at o (find p xs)
find_below at o p [] h = refl
find_below at o p (x ∷ xs) h =
    let both = and_parts (list_all (λ y. nat_lt (at x) (at y)) xs) (rises at xs) h in
    by (p x) (nat_lt (at x) o) refl both.0 (find_below at o p xs both.1)
  where
    passed : (y : ℕ) (b : Bool) → nat_lt (at x) o ≡ false → nat_lt (at x) y ≡ true → (b && nat_lt y o) ≡ false
    passed y b e l = by_test b (nat_lt y o) refl
      where
        by_test : (b c : Bool) → nat_lt y o ≡ c → (b && c) ≡ false
        by_test true true f = absurd (let m : at x < y = ltb-true (at x) y l in let n : y < o = ltb-true y o f in let k : o ≤ at x = ltb-false (at x) o e in omega arith)
        by_test true false f = refl
        by_test false c f = refl

    by : (b c : Bool) → nat_lt (at x) o ≡ c → list_all (λ y. nat_lt (at x) (at y)) xs ≡ true → find (λ y. p y && nat_lt (at y) o) xs ≡ below at o (find p xs)
        → cond (b && c) (Some x) (find (λ y. p y && nat_lt (at y) o) xs) ≡ below at o (cond b (Some x) (find p xs))
    by false c e later rest = rest
    by true true e later rest = sym (ap (λ d. if d then Some x else None) e)
    by true false e later rest =
        find_none_by (λ y. p y && nat_lt (at y) o) (λ y. nat_lt (at x) (at y)) xs later (λ y l. passed (at y) (p y) e l)
        ∙ sym (ap (λ d. if d then Some x else None) e)

-- the label of a name, if it stands before an ordinal
pub label_below : (t : Tables) (o at : ℕ) (name : List ℕ) → IsBefore t o → label_of t.labels false at name ≡ below (λ (l : Labelled). l.ordinal) at (label_of t.labels true 0 name)
label_below t o at name h =
    find_below (λ (l : Labelled). l.ordinal) at (λ l. bytes_eq l.name name) t.labels h.labels_rise
    ∙ ap (below (λ (l : Labelled). l.ordinal) at)
    (sym (find_all_swapped (λ l. bytes_eq l.name name) (λ l. true) t.labels (all_weaker (λ l. nat_lt l.ordinal o) (λ l. true) t.labels (λ l _. refl) h.labels)))

and_assoc : (a b c : Bool) → ((a && b) && c) ≡ (a && (b && c))
and_assoc true b c = refl
and_assoc false b c = refl

placed_now : (t : Tables) (o : ℕ) (name : List ℕ) → IsBefore t o
    → list_any (λ s. nat_lt s.ordinal o && bytes_eq s.name name && is_location s) t.assignments ≡ placed_ever t.assignments name
placed_now t o name h =
    any_same (λ s. nat_lt s.ordinal o && bytes_eq s.name name && is_location s) (λ s. nat_lt s.ordinal o && (bytes_eq s.name name && is_location s)) t.assignments
    (λ s. and_assoc (nat_lt s.ordinal o) (bytes_eq s.name name) (is_location s))
    ∙ any_all (λ s. bytes_eq s.name name && is_location s) (λ s. nat_lt s.ordinal o) t.assignments h.assignments

-- whether a name is a location, and whether it is defined, by look-ups
pub has_place_now : (t : Tables) (o : ℕ) (name : List ℕ) → IsBefore t o → has_location t o name ≡ (is_some (label_of t.labels true 0 name) || gives_location (assigned_ever t.assignments name))
has_place_now t o name h =
    ap (λ l. is_some l || list_any (λ s. nat_lt s.ordinal o && bytes_eq s.name name && is_location s) t.assignments) (label_before t o name h)
    ∙ ap (λ r. is_some (label_of t.labels true 0 name) || r) (placed_now t o name h ∙ h.placed name)

pub defined_now : (t : Tables) (o : ℕ) (name : List ℕ) → IsBefore t o → is_defined t o name ≡ (is_some (label_of t.labels true 0 name) || is_some (assigned_ever t.assignments name))
defined_now t o name h =
    ap (λ l. is_some l || is_some (assigned_before t.assignments o name)) (label_before t o name h)
    ∙ ap (λ r. is_some (label_of t.labels true 0 name) || is_some r) (set_now t o name h)

-- nothing comes later than the statements so far
pub none_later : (o number : ℕ) (numeric_labels : List NumericLabel) → all_numeric_labels o numeric_labels ≡ true → find (λ m. nat_lt o m.ordinal && (m.number == number)) numeric_labels ≡ None
none_later o number numeric_labels h = find_none_by (λ m. nat_lt o m.ordinal && (m.number == number)) (λ m. nat_lt m.ordinal o) numeric_labels h (λ m l. later m.ordinal (m.number == number) l)
  where
    later : (a : ℕ) (b : Bool) → nat_lt a o ≡ true → (nat_lt o a && b) ≡ false
    later a b l = by (nat_lt o a) refl
      where
        by : (c : Bool) → nat_lt o a ≡ c → (c && b) ≡ false
        by true e = absurd (let x : a < o = ltb-true a o l in let y : o < a = ltb-true o a e in omega arith)
        by false e = refl

-- tables with other sections
pub before_sections : (t u : Tables) (o : ℕ) → u.labels ≡ t.labels → u.numeric_labels ≡ t.numeric_labels → u.assignments ≡ t.assignments → IsBefore t o → IsBefore u o
before_sections t u o l m s h = record {
  labels = ap (all_labels o) l ∙ h.labels;
  labels_rise = ap (rises (λ (l : Labelled). l.ordinal)) l ∙ h.labels_rise;
  numeric_labels = ap (all_numeric_labels o) m ∙ h.numeric_labels;
  numeric_labels_fall = ap (falls (λ (m : NumericLabel). m.ordinal)) m ∙ h.numeric_labels_fall;
  assignments = ap (all_assignments o) s ∙ h.assignments;
  assignments_fall = ap (falls (λ (s : Assignment). s.ordinal)) s ∙ h.assignments_fall;
  placed = λ name. ap (λ ss. placed_ever ss name) s ∙ h.placed name ∙ ap (λ ss. gives_location (assigned_ever ss name)) (sym s);
}

-- one more after lower ones
rises_more : {X : Type 0} (at : X → ℕ) (xs : List X) (x : X) → list_all (λ y. nat_lt (at y) (at x)) xs ≡ true → rises at xs ≡ true → rises at (xs ++ x ∷ []) ≡ true
rises_more at [] x low h = refl
rises_more at (y ∷ ys) x low h =
    let now = and_parts (nat_lt (at y) (at x)) (list_all (λ z. nat_lt (at z) (at x)) ys) low in
    let both = and_parts (list_all (λ z. nat_lt (at y) (at z)) ys) (rises at ys) h in
    ap (λ b. b && rises at (ys ++ x ∷ []))
    (list_all-append (λ z. nat_lt (at y) (at z)) ys (x ∷ []) ∙ ap (λ b. b && (nat_lt (at y) (at x) && true)) both.0 ∙ ap (λ b. b && true) now.0)
    ∙ rises_more at ys x now.1 both.1

before_label : (t : Tables) (o : ℕ) (name : List ℕ) → IsBefore t o → IsBefore (with_label t o name) (suc o)
before_label t o name h = by (is_defined t o name) refl
  where
    by : (b : Bool) → is_defined t o name ≡ b → IsBefore (if b then t else record t { labels = t.labels ++ record { name = name; ordinal = o; place = here t } ∷ [] }) (suc o)
    by true e = before_next t o h
    by false e =
        let f = before_next t o h in
        record {
          labels = list_all-append (λ (l : Labelled). nat_lt l.ordinal (suc o)) t.labels (record { name = name; ordinal = o; place = here t } ∷ [])
              ∙ ap (λ b. b && (nat_lt o (suc o) && true)) f.labels ∙ ap (λ b. b && true) (now o);
          labels_rise = rises_more (λ (l : Labelled). l.ordinal) t.labels (record { name = name; ordinal = o; place = here t }) h.labels h.labels_rise;
          numeric_labels = f.numeric_labels;
          numeric_labels_fall = f.numeric_labels_fall;
          assignments = f.assignments;
          assignments_fall = f.assignments_fall;
          placed = f.placed;
        }

before_numeric_label : (t : Tables) (o number : ℕ) → IsBefore t o → IsBefore (with_numeric_label t o number) (suc o)
before_numeric_label t o number h =
    let f = before_next t o h in
    record {
      labels = f.labels;
      labels_rise = f.labels_rise;
      numeric_labels = ap (λ b. b && all_numeric_labels (suc o) t.numeric_labels) (now o) ∙ f.numeric_labels;
      numeric_labels_fall = ap (λ b. b && falls (λ (m : NumericLabel). m.ordinal) t.numeric_labels) h.numeric_labels ∙ h.numeric_labels_fall;
      assignments = f.assignments;
      assignments_fall = f.assignments_fall;
      placed = f.placed;
    }

-- one assignment more that may be made
placed_more : (t : Tables) (o : ℕ) (s : Assignment) → IsBefore t o → not (has_location t o s.name) ≡ true → is_location s ≡ false → (name : List ℕ)
    → placed_ever (s ∷ t.assignments) name ≡ gives_location (assigned_ever (s ∷ t.assignments) name)
placed_more t o s h may is name = by (bytes_eq s.name name) refl
  where
    or_right : (a b : Bool) → not (a || b) ≡ true → b ≡ false
    or_right true b e = absurd (cc)
    or_right false true e = absurd (cc)
    or_right false false e = refl

    by : (b : Bool) → bytes_eq s.name name ≡ b → ((b && is_location s) || placed_ever t.assignments name) ≡ gives_location (cond b (Some s) (assigned_ever t.assignments name))
    by false e = h.placed name
    by true e =
        let none : placed_ever t.assignments s.name ≡ false =
        h.placed s.name ∙ or_right (is_some (label_of t.labels true 0 s.name)) (gives_location (assigned_ever t.assignments s.name)) (ap not (sym (has_place_now t o s.name h)) ∙ may) in
        ap (λ b. b || placed_ever t.assignments name) is ∙ ap (placed_ever t.assignments) (sym (same_bytes s.name name e)) ∙ none ∙ sym is

placed_first : (t : Tables) (o : ℕ) (s : Assignment) → IsBefore t o → not (is_defined t o s.name) ≡ true → is_location s ≡ true → (name : List ℕ)
    → placed_ever (s ∷ t.assignments) name ≡ gives_location (assigned_ever (s ∷ t.assignments) name)
placed_first t o s h may is name = by (bytes_eq s.name name) refl
  where
    by : (b : Bool) → bytes_eq s.name name ≡ b → ((b && is_location s) || placed_ever t.assignments name) ≡ gives_location (cond b (Some s) (assigned_ever t.assignments name))
    by false e = h.placed name
    by true e = ap (λ b. b || placed_ever t.assignments name) is ∙ sym is

may_be : (t : Tables) (o : ℕ) (s : Assignment) (m : Meaning) → s.meaning ≡ m → IsBefore t o → may_set t o s.name m ≡ true → (name : List ℕ)
    → placed_ever (s ∷ t.assignments) name ≡ gives_location (assigned_ever (s ∷ t.assignments) name)
may_be t o s (InSection section offset) is h may = placed_first t o s h may (ap (λ m. is_location (record s { meaning = m })) is)
may_be t o s (Known n) is h may = placed_more t o s h may (ap (λ m. is_location (record s { meaning = m })) is)
may_be t o s Open is h may = placed_more t o s h may (ap (λ m. is_location (record s { meaning = m })) is)
may_be t o s (Refused code) is h may = placed_more t o s h may (ap (λ m. is_location (record s { meaning = m })) is)

before_set : (t : Tables) (o : ℕ) (s : Assignment) → s.ordinal ≡ o → IsBefore t o → IsBefore (with_assignment t (Some s)) (suc o)
before_set t o s at h = by (may_set t s.ordinal s.name s.meaning) refl
  where
    by : (b : Bool) → may_set t s.ordinal s.name s.meaning ≡ b → IsBefore (if b then record t { assignments = s ∷ t.assignments } else t) (suc o)
    by false e = before_next t o h
    by true e =
        let f = before_next t o h in
        record {
          labels = f.labels;
          labels_rise = f.labels_rise;
          numeric_labels = f.numeric_labels;
          numeric_labels_fall = f.numeric_labels_fall;
          assignments = ap (λ a. nat_lt a (suc o) && all_assignments (suc o) t.assignments) at ∙ ap (λ b. b && all_assignments (suc o) t.assignments) (now o) ∙ f.assignments;
          assignments_fall = ap (λ b. b && falls (λ (x : Assignment). x.ordinal) t.assignments) (ap (λ a. all_assignments a t.assignments) at ∙ h.assignments) ∙ h.assignments_fall;
          placed = may_be t o s s.meaning refl h (ap (λ a. may_set t a s.name s.meaning) (sym at) ∙ e);
        }

before_assigned : (t : Tables) (o : ℕ) (name : List ℕ) (v : Value) → IsBefore t o → IsBefore (with_assignment t (assigned name o v)) (suc o)
before_assigned t o name (Constant n) h = before_set t o (record { name = name; ordinal = o; meaning = Known n; plus = 0 }) refl h
before_assigned t o name (Symbolic Here (InSection section offset) plus) h = before_set t o (record { name = name; ordinal = o; meaning = InSection section (add offset plus); plus = plus }) refl h
before_assigned t o name (Symbolic Here (Known n) plus) h = before_next t o h
before_assigned t o name (Symbolic Here Open plus) h = before_next t o h
before_assigned t o name (Symbolic Here (Refused code) plus) h = before_next t o h
before_assigned t o name (Symbolic (Literal n) at plus) h = before_next t o h
before_assigned t o name (Symbolic (Symbol n) at plus) h = before_next t o h
before_assigned t o name (Symbolic (Reference d f) at plus) h = before_next t o h
before_assigned t o name (Difference p q plus) h = before_next t o h
before_assigned t o name (Faulty code) h = before_next t o h

before_named : (t : Tables) (o : ℕ) (v : Expression → Value) (d : Directive) → IsBefore t o → IsBefore (with_assignment t (assigned_by v o d)) (suc o)
before_named t o v (Sets name e) h = before_assigned t o name (v e) h
before_named t o v _ h = before_next t o h

-- sections, options and data leave the names
pub before_section : (t : Tables) (section : Option Section) (o : ℕ) → IsBefore t o → IsBefore (with_section t section) o
before_section t None o h = h
before_section t (Some section) o h =
    entering (λ (u : Tables). IsBefore u o) t section (λ n at. before_sections t (record t { current = n }) o refl refl refl h) (λ room. before_sections t (with_new t section) o refl refl refl h) h

before_choice : (t : Tables) (choice : Choice) (o : ℕ) → IsBefore t o → IsBefore (with_choice t choice) o
before_choice t choice o h = before_sections t (with_choice t choice) o refl refl refl h

before_chosen : (t : Tables) (found : Option Choice) (o : ℕ) → IsBefore t o → IsBefore (with_chosen t found) o
before_chosen t None o h = h
before_chosen t (Some choice) o h = before_choice t choice o h

before_contribution : (t : Tables) (v : Expression → Value) (c : Contribution) (o : ℕ) → IsBefore t o → IsBefore (with_contribution t v c) o
before_contribution t v Nothing o h = h
before_contribution t v (Bytes contents) o h = before_sections t (with_contribution t v (Bytes contents)) o refl refl refl h
before_contribution t v (Alignment form number) o h = before_sections t (with_contribution t v (Alignment form number)) o refl refl refl h

before_directive : (t : Tables) (o : ℕ) (d : Directive) → IsBefore t o → IsBefore (after_directive t o d) (suc o)
before_directive t o d h =
    let v : Expression → Value = value_by_tables t false o (here t) in
    let entered = with_section t (entered_by d) in
    let named = with_assignment entered (assigned_by v o d) in
    before_contribution (with_chosen named (choice_in d)) v (contribution d) (suc o)
    (before_chosen named (choice_in d) (suc o) (before_named entered o v d (before_section t (entered_by d) o h)))

-- the tables after a statement are before the next
pub before_after : (t : Tables) (o : ℕ) (s : StatementKind) → IsBefore t o → IsBefore (after t o s) (suc o)
before_after t o (Label name) h = before_label t o name h
before_after t o (Numbered number) h = before_numeric_label t o number h
before_after t o (Instruction mnemonic operands) h = before_next t o h
before_after t o (Directs d) h = before_directive t o d h

pub before_all : (t : Tables) (o : ℕ) (ss : List Statement) → IsBefore t o → IsBefore (after_all t o ss) (o + length ss)
before_all t o [] h = subst (IsBefore t) (sym (add-zero o)) h
before_all t o (s ∷ ss) h =
    let n : suc o + length ss ≡ o + suc (length ss) = omega arith in
    subst (IsBefore (after_all (after t o s.kind) (suc o) ss)) n (before_all (after t o s.kind) (suc o) ss (before_after t o s.kind h))

pub before_start : (ss : List Statement) (o : ℕ) → IsBefore (at_start ss) o
before_start ss o = record { labels = refl; labels_rise = refl; numeric_labels = refl; numeric_labels_fall = refl; assignments = refl; assignments_fall = refl; placed = λ name. refl }
