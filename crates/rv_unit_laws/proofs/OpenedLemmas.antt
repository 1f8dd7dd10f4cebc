-- Sections that are open stay open, each at its index.

use Rattle.std.proofs.Common.{◌≡◌, ℕ, zero, suc, ◌<◌, ◌≤◌, Bool, true, false, ◌&&◌, nat_lt, List, [], ◌∷◌, ◌++◌, length, map, refl, sym, ap, ◌∙◌, subst, arith, Option, Some, None, get_or}
use Rattle.std.specs.Prelude.{if◌then◌else◌, slice_get}
use Rattle.std.specs.List.{list_all}
use Rattle.std.proofs.lemmas.Bool.{ltb-true, lt-ltb}
use Rattle.std.proofs.lemmas.List.Folds.{list_all-append}
use Rattle.rv_statement_laws.specs.Statement.{StatementKind, Expression, Label, Numbered, Instruction, Directs, Statement, Directive}
use Rattle.rv_statement_laws.specs.declared.directive.Choice.{Choice}
use Rattle.rv_expression_laws.specs.Values.{Open, InSection, Value}
use Rattle.rv_unit_laws.specs.Sections.{Section, Opened, text_section, entered_by, section_at}
use Rattle.rv_unit_laws.specs.Contributions.{Contribution, Nothing, Bytes, Alignment, contribution}
use Rattle.rv_unit_laws.specs.Tables.{Tables, Extent, SectionOffset, Labelled, NumericLabel, Assignment, at_start, here, stands, value_by_tables, assigned_by, choice_in, is_defined, may_set, with_label, with_assignment, with_section, with_contribution, with_choice, with_chosen, after_directive, after, after_all, opened_of, extended, changed_at, contributed, alignment_as, with_data}
use Rattle.rv_unit_laws.proofs.EnteringLemmas.{place_inside, sections_more, sections_count, entering}
use Rattle.std.proofs.lemmas.Option.{slice_get-get_or}
use Rattle.rv_list_laws.proofs.TestsLemmas.{all_weaker}
use Rattle.rv_list_laws.proofs.ElementsLemmas.{get_or_get, get_front, get_last}

-- ---- the sections that are open

-- the current section is one of those that are open
abbrev pub IsOpen : Opened → Type 0
IsOpen o = (x : Section) × (slice_get o.sections o.current ≡ Some x)

-- those that are open stay, each at its index
abbrev pub Stays : Opened → Opened → Type 0
Stays o now = (j : ℕ) (x : Section) → slice_get o.sections j ≡ Some x → slice_get now.sections j ≡ Some x

section_open : (t : Tables) (found : Option Section) → IsOpen (opened_of t) → IsOpen (opened_of (with_section t found)) × Stays (opened_of t) (opened_of (with_section t found))
section_open t None is_open = (is_open, λ j x h. h)
section_open t (Some s) is_open =
    let ss : List Section = (opened_of t).sections in
    entering (λ (u : Tables). IsOpen (opened_of u) × Stays (opened_of t) (opened_of u)) t s
    (λ n at. ((get_or ss n s, slice_get-get_or ss n s (place_inside ss s.name n at)), λ j x h. h))
    (λ room. (
      (s, ap (λ l. slice_get l (length t.extents)) (sections_more t s) ∙ ap (λ n. slice_get (ss ++ s ∷ []) n) (sym (sections_count t)) ∙ get_last ss s),
      λ j x h. ap (λ l. slice_get l j) (sections_more t s) ∙ get_front ss (s ∷ []) j x h,
    ))
    (is_open, λ j x h. h)

-- the section that a statement enters
abbrev pub entered_in : StatementKind → Option Section
entered_in (Label name) = None
entered_in (Numbered number) = None
entered_in (Instruction mnemonic operands) = None
entered_in (Directs directive) = entered_by directive

-- sections keep their names and flags where one of them gets data
sections_kept : (i bytes : ℕ) (alignment : Option ℕ) (es : List Extent) → map (λ (e : Extent). e.section) (changed_at i (extended bytes alignment) es) ≡ map (λ (e : Extent). e.section) es
sections_kept i bytes alignment [] = refl
sections_kept zero bytes alignment (e ∷ es) = refl
sections_kept (suc i) bytes alignment (e ∷ es) = ap (λ l. e.section ∷ l) (sections_kept i bytes alignment es)

abbrev opened_by : ℕ → List Section → Opened
opened_by current sections = record { sections = sections; current = current }

pub data_opened : (t : Tables) (bytes : ℕ) (alignment : Option ℕ) → opened_of (with_data t bytes alignment) ≡ opened_of t
data_opened t bytes alignment = ap (opened_by t.current) (sections_kept t.current bytes alignment t.extents)

if_opened : (b : Bool) (t u : Tables) (o : Opened) → opened_of t ≡ o → opened_of u ≡ o → opened_of (if b then t else u) ≡ o
if_opened true t u o e f = e
if_opened false t u o e f = f

set_opened : (t : Tables) (found : Option Assignment) → opened_of (with_assignment t found) ≡ opened_of t
set_opened t None = refl
set_opened t (Some s) = if_opened (may_set t s.ordinal s.name s.meaning) _ t (opened_of t) refl refl

choice_opened : (t : Tables) (choice : Choice) → opened_of (with_choice t choice) ≡ opened_of t
choice_opened t choice = refl

chosen_opened : (t : Tables) (found : Option Choice) → opened_of (with_chosen t found) ≡ opened_of t
chosen_opened t None = refl
chosen_opened t (Some choice) = choice_opened t choice

contribution_opened : (t : Tables) (v : Expression → Value) (c : Contribution) → opened_of (with_contribution t v c) ≡ opened_of t
contribution_opened t v Nothing = refl
contribution_opened t v (Bytes contents) = data_opened t (contributed v (here t).offset (Bytes contents)) None
contribution_opened t v (Alignment form number) = data_opened t (contributed v (here t).offset (Alignment form number)) (alignment_as form (v number))

directive_opened : (t : Tables) (k : ℕ) (d : Directive) → opened_of (after_directive t k d) ≡ opened_of (with_section t (entered_by d))
directive_opened t k d =
    let v : Expression → Value = value_by_tables t false k (here t) in
    let entered = with_section t (entered_by d) in
    let named = with_assignment entered (assigned_by v k d) in
    contribution_opened (with_chosen named (choice_in d)) v (contribution d)
    ∙ chosen_opened named (choice_in d) ∙ set_opened entered (assigned_by v k d)

-- the open sections after a statement
pub after_opened : (t : Tables) (k : ℕ) (says : StatementKind) → opened_of (after t k says) ≡ opened_of (with_section t (entered_in says))
after_opened t k (Label name) = if_opened (is_defined t k name) t _ (opened_of t) refl refl
after_opened t k (Numbered number) = refl
after_opened t k (Instruction mnemonic operands) = refl
after_opened t k (Directs directive) = directive_opened t k directive

pub after_open : (t : Tables) (k : ℕ) (says : StatementKind) → IsOpen (opened_of t) → IsOpen (opened_of (after t k says)) × Stays (opened_of t) (opened_of (after t k says))
after_open t k says is_open =
    subst (λ o. IsOpen o × Stays (opened_of t) o) (sym (after_opened t k says)) (section_open t (entered_in says) is_open)

pub stays_all : (t : Tables) (k : ℕ) (ss : List Statement) → IsOpen (opened_of t) → Stays (opened_of t) (opened_of (after_all t k ss))
stays_all t k [] is_open = λ j x h. h
stays_all t k (s ∷ ss) is_open =
    let now = after_open t k s.kind is_open in
    λ j x h. stays_all (after t k s.kind) (suc k) ss now.0 j x (now.1 j x h)

-- what stands in a section that is open means the same with the sections that are opened later
pub stands_same : (t : Tables) (k : ℕ) (ss : List Statement) (p : SectionOffset) → IsOpen (opened_of t) → p.section < length (opened_of t).sections → stands (opened_of (after_all t k ss)) p ≡ stands (opened_of t) p
stands_same t k ss p is_open inside =
    let at = slice_get-get_or (opened_of t).sections p.section text_section inside in
    let later = stays_all t k ss is_open p.section (section_at (opened_of t) p.section) at in
    ap (λ (s : Section). if s.executable then Open else InSection p.section p.offset) (get_or_get (opened_of (after_all t k ss)).sections p.section text_section (section_at (opened_of t) p.section) later)

-- the current section is inside
pub open_inside : (o : Opened) → IsOpen o → o.current < length o.sections
open_inside o (x, e) = inside o.sections o.current e
  where
    inside : (xs : List Section) (i : ℕ) → slice_get xs i ≡ Some x → i < length xs
    inside [] i e = absurd (cc)
    inside (y ∷ ys) zero e = omega arith
    inside (y ∷ ys) (suc i) e = let l : i < length ys = inside ys i e in omega arith

-- ---- labels and numeric labels stand in sections that are open

abbrev pub labels_in : ℕ → List Labelled → Bool
labels_in n labels = list_all (λ l. nat_lt l.place.section n) labels

abbrev pub numeric_labels_in : ℕ → List NumericLabel → Bool
numeric_labels_in n numeric_labels = list_all (λ m. nat_lt m.place.section n) numeric_labels

pub record AreIn (t : Tables) (n : ℕ) : Type 0 where
  pub labels : labels_in n t.labels ≡ true
  pub numeric_labels : numeric_labels_in n t.numeric_labels ≡ true

in_more : (t : Tables) (n k : ℕ) → n ≤ k → AreIn t n → AreIn t k
in_more t n k more h = record {
  labels = all_weaker (λ l. nat_lt l.place.section n) (λ l. nat_lt l.place.section k) t.labels (λ l. wider l.place.section) h.labels;
  numeric_labels = all_weaker (λ m. nat_lt m.place.section n) (λ m. nat_lt m.place.section k) t.numeric_labels (λ m. wider m.place.section) h.numeric_labels;
}
  where
    wider : (a : ℕ) → nat_lt a n ≡ true → nat_lt a k ≡ true
    wider a e = let l : a < n = ltb-true a n e in lt-ltb a k (omega (arith, more))

in_if : (b : Bool) (t u : Tables) (n : ℕ) → AreIn t n → AreIn u n → AreIn (if b then t else u) n
in_if true t u n h k = h
in_if false t u n h k = k

in_label : (t : Tables) (o : ℕ) (name : List ℕ) (n : ℕ) → t.current < n → AreIn t n → AreIn (with_label t o name) n
in_label t o name n inside h =
    in_if (is_defined t o name) t (record t { labels = t.labels ++ record { name = name; ordinal = o; place = here t } ∷ [] }) n h (record {
      labels = list_all-append (λ (l : Labelled). nat_lt l.place.section n) t.labels (record { name = name; ordinal = o; place = here t } ∷ [])
          ∙ ap (λ b. b && (nat_lt t.current n && true)) h.labels ∙ ap (λ b. b && true) (lt-ltb t.current n inside);
      numeric_labels = h.numeric_labels;
    })

in_set : (t : Tables) (s : Option Assignment) (n : ℕ) → AreIn t n → AreIn (with_assignment t s) n
in_set t None n h = h
in_set t (Some s) n h = in_if (may_set t s.ordinal s.name s.meaning) (record t { assignments = s ∷ t.assignments }) t n (record { labels = h.labels; numeric_labels = h.numeric_labels }) h

in_section : (t : Tables) (section : Option Section) (n : ℕ) → AreIn t n → AreIn (with_section t section) n
in_section t None n h = h
in_section t (Some section) n h =
    entering (λ (u : Tables). AreIn u n) t section (λ i at. record { labels = h.labels; numeric_labels = h.numeric_labels }) (λ room. record { labels = h.labels; numeric_labels = h.numeric_labels }) h

in_choice : (t : Tables) (choice : Choice) (n : ℕ) → AreIn t n → AreIn (with_choice t choice) n
in_choice t choice n h = record { labels = h.labels; numeric_labels = h.numeric_labels }

in_chosen : (t : Tables) (found : Option Choice) (n : ℕ) → AreIn t n → AreIn (with_chosen t found) n
in_chosen t None n h = h
in_chosen t (Some choice) n h = in_choice t choice n h

in_contribution : (t : Tables) (v : Expression → Value) (c : Contribution) (n : ℕ) → AreIn t n → AreIn (with_contribution t v c) n
in_contribution t v Nothing n h = h
in_contribution t v _ n h = record { labels = h.labels; numeric_labels = h.numeric_labels }

in_directive : (t : Tables) (o : ℕ) (d : Directive) (n : ℕ) → AreIn t n → AreIn (after_directive t o d) n
in_directive t o d n h =
    let v : Expression → Value = value_by_tables t false o (here t) in
    let entered = with_section t (entered_by d) in
    let named = with_assignment entered (assigned_by v o d) in
    let parts = in_contribution (with_chosen named (choice_in d)) v (contribution d) n
    (in_chosen named (choice_in d) n (in_set entered (assigned_by v o d) n (in_section t (entered_by d) n h))) in
    record { labels = parts.labels; numeric_labels = parts.numeric_labels }

in_after : (t : Tables) (o : ℕ) (says : StatementKind) (n : ℕ) → t.current < n → AreIn t n → AreIn (after t o says) n
in_after t o (Label name) n inside h = in_label t o name n inside h
in_after t o (Numbered number) n inside h = record { labels = h.labels; numeric_labels = ap (λ b. b && numeric_labels_in n t.numeric_labels) (lt-ltb t.current n inside) ∙ h.numeric_labels }
in_after t o (Instruction mnemonic operands) n inside h = h
in_after t o (Directs d) n inside h = in_directive t o d n h

-- the sections get no fewer
no_fewer : (o now : Opened) → Stays o now → length o.sections ≤ length now.sections
no_fewer o now stays = by o.sections now.sections stays
  where
    by : (xs ys : List Section) → ((j : ℕ) (x : Section) → slice_get xs j ≡ Some x → slice_get ys j ≡ Some x) → length xs ≤ length ys
    by [] ys h = omega arith
    by (x ∷ xs) [] h = absurd (let e : ◌≡◌ {A = Option Section} None (Some x) = h 0 x refl in cc)
    by (x ∷ xs) (y ∷ ys) h = let l : length xs ≤ length ys = by xs ys (λ j z e. h (suc j) z e) in omega (arith, l)

-- a source's sections, with what stands in them
pub record IsStood (t : Tables) : Type 0 where
  pub opened : IsOpen (opened_of t)
  pub inside : AreIn t (length (opened_of t).sections)

stood_after : (t : Tables) (o : ℕ) (says : StatementKind) → IsStood t → IsStood (after t o says)
stood_after t o says h =
    let now = after_open t o says h.opened in
    record {
      opened = now.0;
      inside = in_more (after t o says) (length (opened_of t).sections) (length (opened_of (after t o says)).sections) (no_fewer (opened_of t) (opened_of (after t o says)) now.1)
          (in_after t o says (length (opened_of t).sections) (open_inside (opened_of t) h.opened) h.inside);
    }

pub stood_all : (t : Tables) (o : ℕ) (ss : List Statement) → IsStood t → IsStood (after_all t o ss)
stood_all t o [] h = h
stood_all t o (s ∷ ss) h = stood_all (after t o s.kind) (suc o) ss (stood_after t o s.kind h)

pub stood_start : (ss : List Statement) → IsStood (at_start ss)
stood_start ss = record { opened = (text_section, refl); inside = record { labels = refl; numeric_labels = refl } }
