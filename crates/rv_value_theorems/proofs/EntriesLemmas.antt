-- What the tables of a source hold stands where its statements stand.

use Rattle.std.proofs.Common.{◌≡◌, ℕ, suc, ◌+◌, Bool, true, false, ◌==◌, List, [], ◌∷◌, ◌++◌, refl, sym, ap, ◌∙◌, subst, Option, Some, None}
use Rattle.std.specs.Prelude.{if◌then◌else◌}
use Rattle.std.specs.List.{find, AllByRecursion}
use Rattle.rv_list_laws.proofs.EachLemmas.{each_append}
use Rattle.rv_expression_laws.specs.Expression.{Primary, Literal, Symbol, Here, Reference}
use Rattle.rv_expression_laws.specs.Values.{Meaning, Known, InSection, Open, Refused, Value, Constant, Symbolic, Difference, Faulty, add}
use Rattle.rv_statement_laws.specs.Statement.{StatementKind, Label, Numbered, Instruction, Directs, Statement, Expression, Directive, Sets}
use Rattle.rv_statement_laws.specs.declared.directive.Choice.{Choice}
use Rattle.rv_unit_laws.specs.Sections.{Section, section_at, entered_by}
use Rattle.rv_unit_laws.specs.Contributions.{Contribution, Nothing, Bytes, Alignment, contribution}
use Rattle.rv_unit_laws.specs.Tables.{Tables, SectionOffset, Labelled, NumericLabel, Assignment, here, stood, stands, meaning, value_by_tables, assigned, assigned_by, choice_in, gives_location, is_defined, may_set, with_label, with_numeric_label, with_assignment, with_section, with_contribution, with_choice, with_chosen, after, after_directive, after_all, opened_of}
use Rattle.rv_unit_laws.proofs.AskedLemmas.{home_same}
use Rattle.rv_unit_laws.proofs.EnteringLemmas.{with_new, entering}
use Rattle.rv_unit_laws.proofs.MeantLemmas.{HasMeaning, value_meant}
use Rattle.rv_unit_laws.proofs.OpenedLemmas.{IsStood, stood_all}
use Rattle.rv_source_laws.specs.Located.{Located, located_now, located_from, is_placed, is_placed_directive}
use Rattle.rv_source_laws.specs.Program.{place_of}
use Rattle.rv_value_theorems.proofs.WalkLemmas.{AreLast, last_next, found_now}

-- a statement of a file stands at a place, and has a row if its section is loaded
abbrev pub StandsAt : List Located → ℕ → SectionOffset → Type 0
StandsAt file ordinal place =
    (l : Located) × (find (λ s. s.ordinal == ordinal) file ≡ Some l) × (place_of l ≡ place) × (l.placed ≡ true)

-- a location that a name is set to stands in a section of data
abbrev pub SetsAt : Tables → List Located → Assignment → Type 0
SetsAt all file s =
    (section offset : ℕ) → s.meaning ≡ InSection section offset
    → (at : ℕ) × StandsAt file s.ordinal (record { section = section; offset = at }) × ((section_at (opened_of all) section).executable ≡ false) × (offset ≡ add at s.plus)

pub record AreAt (all : Tables) (file : List Located) (t : Tables) : Type 0 where
  pub labels : AllByRecursion (λ (l : Labelled). StandsAt file l.ordinal l.place) t.labels
  pub numeric_labels : AllByRecursion (λ (l : NumericLabel). StandsAt file l.ordinal l.place) t.numeric_labels
  pub assignments : AllByRecursion (SetsAt all file) t.assignments

module _ (all : Tables) (file : List Located) where
  at_same : (t u : Tables) → u.labels ≡ t.labels → u.numeric_labels ≡ t.numeric_labels → u.assignments ≡ t.assignments → AreAt all file t → AreAt all file u
  at_same t u l n a h = record {
    labels = subst (AllByRecursion (λ (l : Labelled). StandsAt file l.ordinal l.place)) (sym l) h.labels;
    numeric_labels = subst (AllByRecursion (λ (l : NumericLabel). StandsAt file l.ordinal l.place)) (sym n) h.numeric_labels;
    assignments = subst (AllByRecursion (SetsAt all file)) (sym a) h.assignments;
  }

  at_if : (b : Bool) (t u : Tables) → AreAt all file t → AreAt all file u → AreAt all file (if b then t else u)
  at_if true t u h k = h
  at_if false t u h k = k

  at_label : (t : Tables) (k : ℕ) (name : List ℕ) → StandsAt file k (here t) → AreAt all file t → AreAt all file (with_label t k name)
  at_label t k name now h =
      at_if (is_defined t k name) t (record t { labels = t.labels ++ record { name = name; ordinal = k; place = here t } ∷ [] }) h (record {
        labels = each_append (λ (l : Labelled). StandsAt file l.ordinal l.place) t.labels (record { name = name; ordinal = k; place = here t } ∷ []) h.labels (now, tt);
        numeric_labels = h.numeric_labels;
        assignments = h.assignments;
      })

  at_assigned : (t : Tables) (s : Assignment) → SetsAt all file s → AreAt all file t → AreAt all file (with_assignment t (Some s))
  at_assigned t s now h =
      at_if (may_set t s.ordinal s.name s.meaning) (record t { assignments = s ∷ t.assignments }) t
      (record { labels = h.labels; numeric_labels = h.numeric_labels; assignments = (now, h.assignments) }) h

  -- `.` stands where the next statement stands, if that is in a section of data
  here_is : (executable : Bool) (p : SectionOffset) (section offset : ℕ) → InSection section offset ≡ (if executable then Open else InSection p.section p.offset) → p ≡ record { section = section; offset = offset }
  here_is true p section offset e = absurd (cc)
  here_is false p section offset e =
      let s : p.section ≡ section = cc in
      let o : p.offset ≡ offset = cc in
      ap (λ n. record { section = n; offset = p.offset }) s ∙ ap (λ n. record { section = section; offset = n }) o

  is_data : (executable : Bool) (p : SectionOffset) (section offset : ℕ) → InSection section offset ≡ (if executable then Open else InSection p.section p.offset) → executable ≡ false
  is_data true p section offset e = absurd (cc)
  is_data false p section offset e = refl

  -- the current section is the same in the end
  abbrev IsHome : Tables → Type 0
  IsHome t = section_at (opened_of all) t.current ≡ section_at (opened_of t) t.current

  at_set : (t : Tables) (k : ℕ) (name : List ℕ) (v : Value) → IsHome t → HasMeaning (λ q. meaning t false k (here t) q) v → (gives_location (assigned name k v) ≡ true → StandsAt file k (here t)) → AreAt all file t
      → AreAt all file (with_assignment t (assigned name k v))
  at_set t k name (Constant n) home is now h = at_assigned t (record { name = name; ordinal = k; meaning = Known n; plus = 0 }) (λ section offset e. absurd (cc)) h
  at_set t k name (Symbolic Here (InSection section offset) plus) home is now h =
      let b : Bool = (section_at (opened_of t) t.current).executable in
      let there : here t ≡ record { section = section; offset = offset } = here_is b (here t) section offset is in
      at_assigned t (record { name = name; ordinal = k; meaning = InSection section (add offset plus); plus = plus })
      (λ j o e. let same : section ≡ j = cc in (
        offset,
        subst (λ p. StandsAt file k p) (there ∙ ap (λ n. record { section = n; offset = offset }) same) (now refl),
        ap (λ n. (section_at (opened_of all) n).executable) (sym (ap (λ (p : SectionOffset). p.section) there ∙ same)) ∙ ap (λ (x : Section). x.executable) home ∙ is_data b (here t) section offset is,
        (let f : o ≡ add offset plus = cc in f),
      ))
      h
  at_set t k name (Symbolic Here (Known n) plus) home is now h = h
  at_set t k name (Symbolic Here Open plus) home is now h = h
  at_set t k name (Symbolic Here (Refused code) plus) home is now h = h
  at_set t k name (Symbolic (Literal n) at plus) home is now h = h
  at_set t k name (Symbolic (Symbol n) at plus) home is now h = h
  at_set t k name (Symbolic (Reference d f) at plus) home is now h = h
  at_set t k name (Difference p q plus) home is now h = h
  at_set t k name (Faulty code) home is now h = h

  at_section : (t : Tables) (found : Option Section) → AreAt all file t → AreAt all file (with_section t found)
  at_section t None h = h
  at_section t (Some section) h =
      entering (λ (u : Tables). AreAt all file u) t section (λ n at. at_same t (record t { current = n }) refl refl refl h) (λ room. at_same t (with_new t section) refl refl refl h) h

  at_chosen : (t : Tables) (found : Option Choice) → AreAt all file t → AreAt all file (with_chosen t found)
  at_chosen t None h = h
  at_chosen t (Some choice) h = at_same t (with_choice t choice) refl refl refl h

  at_contribution : (t : Tables) (v : Expression → Value) (c : Contribution) → AreAt all file t → AreAt all file (with_contribution t v c)
  at_contribution t v Nothing h = h
  at_contribution t v (Bytes contents) h = at_same t (with_contribution t v (Bytes contents)) refl refl refl h
  at_contribution t v (Alignment form number) h = at_same t (with_contribution t v (Alignment form number)) refl refl refl h

  at_named : (t : Tables) (k : ℕ) (d : Directive) → IsHome t → (is_placed_directive t k d ≡ true → StandsAt file k (stood t k (Directs d))) → AreAt all file t
      → AreAt all file (with_assignment (with_section t (entered_by d)) (assigned_by (value_by_tables t false k (here t)) k d))
  at_named t k (Sets name e) home now h =
      at_set t k name (value_by_tables t false k (here t) e) home (value_meant (λ q. meaning t false k (here t) q) e) now h
  at_named t k d home now h = at_section t (entered_by d) h

  at_after : (t : Tables) (k : ℕ) (says : StatementKind) → IsHome t → (is_placed t k says ≡ true → StandsAt file k (stood t k says)) → AreAt all file t → AreAt all file (after t k says)
  at_after t k (Label name) home now h = at_label t k name (now refl) h
  at_after t k (Numbered number) home now h = record { labels = h.labels; numeric_labels = (now refl, h.numeric_labels); assignments = h.assignments }
  at_after t k (Instruction mnemonic operands) home now h = h
  at_after t k (Directs d) home now h =
      let v : Expression → Value = value_by_tables t false k (here t) in
      let named = with_assignment (with_section t (entered_by d)) (assigned_by v k d) in
      at_contribution (with_chosen named (choice_in d)) v (contribution d) (at_chosen named (choice_in d) (at_named t k d home now h))

pub at_all : (file : List Located) (n : ℕ) (t : Tables) (k : ℕ) (ss : List Statement) → IsStood t → AreLast file k (located_from n k t ss) → AreAt (after_all t k ss) file t → AreAt (after_all t k ss) file (after_all t k ss)
at_all file n t k [] whole last h = h
at_all file n t k (s ∷ ss) whole last h =
    at_all file n (after t k s.kind) (suc k) ss (stood_all t k (s ∷ []) whole) (last_next file n k t s ss last)
    (at_after (after_all t k (s ∷ ss)) file t k s.kind (home_same t k (s ∷ ss) whole.opened) (λ placed. (located_now n k t s, found_now file n k t s ss last, refl, placed)) h)
