-- What the tables before a statement answer, asked of the tables of the whole source.

use Rattle.std.proofs.Common.{◌≡◌, ℕ, zero, suc, ◌+◌, ◌-◌, ◌<◌, Bool, true, false, ◌&&◌, ◌||◌, nat_lt, List, [], ◌∷◌, length, take, drop, get_or, refl, sym, ap, ◌∙◌, arith, Option, Some, None}
use Rattle.std.specs.Prelude.{not, is_some, if◌then◌else◌}
use Rattle.std.specs.Str.{bytes_eq}
use Rattle.rv_expression_laws.specs.Values.{Value}
use Rattle.rv_statement_laws.specs.Statement.{StatementKind, Label, Numbered, Instruction, Directs, Statement, Expression, Directive}
use Rattle.rv_statement_laws.specs.declared.directive.Choice.{Choice}
use Rattle.rv_statement_laws.specs.declared.directive.Choice.TheVariants.{Rvc, Norvc, Relax, Norelax, Push, Pop, Nopic}
use Rattle.rv_unit_laws.specs.Sections.{Section, Opened, place_of_name, most_sections, text_section, entered_by, section_at, current_section}
use Rattle.rv_unit_laws.specs.Options.{Options}
use Rattle.rv_unit_laws.specs.Contributions.{Contribution, Nothing, contribution}
use Rattle.rv_unit_laws.specs.Tables.{Tables, SectionOffset, Assignment, here, stood, places_from, options_from, value_by_tables, assigned_by, choice_in, label_of, assigned_before, is_defined, has_location, may_set, with_assignment, with_section, with_contribution, with_choice, with_chosen, after_directive, after, after_all, opened_of, gives_location}
use Rattle.rv_unit_laws.proofs.BeforeLemmas.{IsBefore, label_before, set_now, has_place_now}
use Rattle.rv_unit_laws.proofs.EnteringLemmas.{place_more, or_last, sections_more, sections_count, entering, entered_new}
use Rattle.rv_unit_laws.proofs.FoundLemmas.{bytes_same}
use Rattle.rv_unit_laws.proofs.LaterLemmas.{Keeps}
use Rattle.rv_unit_laws.proofs.OpenedLemmas.{IsOpen, entered_in, after_opened, stays_all, open_inside}
use Rattle.std.proofs.lemmas.Option.{slice_get-get_or}
use Rattle.rv_list_laws.proofs.ElementsLemmas.{get_or_get}

-- ---- names

-- whether a name is defined before an ordinal
pub defined_kept : (t u : Tables) (o : ℕ) (name : List ℕ) → Keeps t u o → is_defined u o name ≡ is_defined t o name
defined_kept t u o name k =
    ap (λ l. is_some l || is_some (assigned_before u.assignments o name)) (k.labels (λ l. bytes_eq l.name name))
    ∙ ap (λ s. is_some (label_of t.labels false o name) || is_some s) (k.assignments (λ s. bytes_eq s.name name))

-- whether it is a label or a location before an ordinal, by look-ups
pub location_kept : (t u : Tables) (o : ℕ) (name : List ℕ) → IsBefore t o → Keeps t u o
    → (is_some (label_of u.labels false o name) || gives_location (assigned_before u.assignments o name)) ≡ has_location t o name
location_kept t u o name h k =
    ap (λ l. is_some l || gives_location (assigned_before u.assignments o name)) (k.labels (λ l. bytes_eq l.name name) ∙ label_before t o name h)
    ∙ ap (λ s. is_some (label_of t.labels true 0 name) || gives_location s) (k.assignments (λ s. bytes_eq s.name name) ∙ set_now t o name h)
    ∙ sym (has_place_now t o name h)

-- ---- sections

-- the current section
pub home_same : (t : Tables) (k : ℕ) (ss : List Statement) → IsOpen (opened_of t) → section_at (opened_of (after_all t k ss)) t.current ≡ current_section (opened_of t)
home_same t k ss is_open =
    let at = slice_get-get_or (opened_of t).sections t.current text_section (open_inside (opened_of t) is_open) in
    get_or_get (opened_of (after_all t k ss)).sections t.current text_section (current_section (opened_of t)) (stays_all t k ss is_open t.current (current_section (opened_of t)) at)

-- a name that is known keeps its index
known_next : (t : Tables) (found : Option Section) (name : List ℕ) (i : ℕ) → place_of_name (opened_of t).sections name ≡ Some i → place_of_name (opened_of (with_section t found)).sections name ≡ Some i
known_next t None name i e = e
known_next t (Some s) name i e =
    entering (λ (u : Tables). place_of_name (opened_of u).sections name ≡ Some i) t s (λ n at. e)
    (λ room. ap (λ l. place_of_name l name) (sections_more t s) ∙ place_more (opened_of t).sections s name ∙ ap (λ f. or_last f (length (opened_of t).sections) (bytes_eq s.name name)) e)
    e

known_later : (t : Tables) (k : ℕ) (ss : List Statement) (name : List ℕ) (i : ℕ) → place_of_name (opened_of t).sections name ≡ Some i → place_of_name (opened_of (after_all t k ss)).sections name ≡ Some i
known_later t k [] name i e = e
known_later t k (s ∷ ss) name i e =
    known_later (after t k s.kind) (suc k) ss name i
    (ap (λ (o : Opened). place_of_name o.sections name) (after_opened t k s.kind) ∙ known_next t (entered_in s.kind) name i e)

-- where there are as many sections as there may be, they stay the same
full_next : (t : Tables) (found : Option Section) → nat_lt (length (opened_of t).sections) most_sections ≡ false → (opened_of (with_section t found)).sections ≡ (opened_of t).sections
full_next t None full = refl
full_next t (Some s) full =
    entering (λ (u : Tables). (opened_of u).sections ≡ (opened_of t).sections) t s (λ n at. refl)
    (λ room. absurd (let e : true ≡ false = sym room ∙ ap (λ n. nat_lt n most_sections) (sym (sections_count t)) ∙ full in cc)) refl

full_later : (t : Tables) (k : ℕ) (ss : List Statement) → nat_lt (length (opened_of t).sections) most_sections ≡ false → (opened_of (after_all t k ss)).sections ≡ (opened_of t).sections
full_later t k [] full = refl
full_later t k (s ∷ ss) full =
    let now : (opened_of (after t k s.kind)).sections ≡ (opened_of t).sections = ap (λ (o : Opened). o.sections) (after_opened t k s.kind) ∙ full_next t (entered_in s.kind) full in
    full_later (after t k s.kind) (suc k) ss (ap (λ l. nat_lt (length l) most_sections) now ∙ full) ∙ now

-- a new section has its name
new_known : (t : Tables) (s : Section) → place_of_name (opened_of t).sections s.name ≡ None → nat_lt (length (opened_of t).sections) most_sections ≡ true
    → place_of_name (opened_of (with_section t (Some s))).sections s.name ≡ Some (length (opened_of t).sections)
new_known t s none room =
    ap (λ (u : Tables). place_of_name (opened_of u).sections s.name) (entered_new t s none (ap (λ n. nat_lt n most_sections) (sym (sections_count t)) ∙ room))
    ∙ ap (λ l. place_of_name l s.name) (sections_more t s)
    ∙ place_more (opened_of t).sections s s.name
    ∙ ap (λ f. or_last f (length (opened_of t).sections) (bytes_eq s.name s.name)) none
    ∙ ap (or_last None (length (opened_of t).sections)) (bytes_same s.name)

-- a section that is entered is one too many where its name is not known in the end
pub too_many : (t now : Tables) (k : ℕ) (ss : List Statement) (section : Section) → opened_of now ≡ opened_of (with_section t (Some section))
    → not (is_some (place_of_name (opened_of (after_all now k ss)).sections section.name))
    ≡ (not (is_some (place_of_name (opened_of t).sections section.name)) && not (nat_lt (length (opened_of t).sections) most_sections))
too_many t now k ss section is = go (place_of_name (opened_of t).sections section.name) refl
  where
    found_later : (i : ℕ) → place_of_name (opened_of (with_section t (Some section))).sections section.name ≡ Some i → not (is_some (place_of_name (opened_of (after_all now k ss)).sections section.name)) ≡ false
    found_later i e =
        ap (λ f. not (is_some f)) (known_later now k ss section.name i (ap (λ (o : Opened). place_of_name o.sections section.name) is ∙ e))

    by : (b : Bool) → nat_lt (length (opened_of t).sections) most_sections ≡ b → place_of_name (opened_of t).sections section.name ≡ None
        → not (is_some (place_of_name (opened_of (after_all now k ss)).sections section.name)) ≡ not b
    by true room none = found_later (length (opened_of t).sections) (new_known t section none room)
    by false full none =
        let same : (opened_of now).sections ≡ (opened_of t).sections = ap (λ (o : Opened). o.sections) is ∙ full_next t (Some section) full in
        ap (λ l. not (is_some (place_of_name l section.name))) (full_later now k ss (ap (λ l. nat_lt (length l) most_sections) same ∙ full) ∙ same)
        ∙ ap (λ f. not (is_some f)) none

    go : (found : Option ℕ) → place_of_name (opened_of t).sections section.name ≡ found
        → not (is_some (place_of_name (opened_of (after_all now k ss)).sections section.name)) ≡ (not (is_some found) && not (nat_lt (length (opened_of t).sections) most_sections))
    go (Some i) e = found_later i (known_next t (Some section) section.name i e)
    go None e = by (nat_lt (length (opened_of t).sections) most_sections) refl e

-- ---- places

pub places_length : (t : Tables) (k : ℕ) (ss : List Statement) → length (places_from t k ss) ≡ length ss
places_length t k [] = refl
places_length t k (s ∷ ss) = ap suc (places_length (after t k s.kind) (suc k) ss)

-- where the statement at an index stands
pub place_at : (t : Tables) (k : ℕ) (ss : List Statement) (i : ℕ) (d : SectionOffset) (x : Statement) → i < length ss
    → get_or (places_from t k ss) i d ≡ stood (after_all t k (take i ss)) (k + i) (get_or ss i x).kind
place_at t k [] i d x inside = absurd (omega arith)
place_at t k (s ∷ ss) zero d x inside = ap (λ n. stood t n s.kind) (let e : k ≡ k + 0 = omega arith in e)
place_at t k (s ∷ ss) (suc i) d x inside =
    place_at (after t k s.kind) (suc k) ss i d x (omega arith)
    ∙ ap (λ n. stood (after_all (after t k s.kind) (suc k) (take i ss)) n (get_or ss i x).kind) (let e : suc k + i ≡ k + suc i = omega arith in e)

-- ---- options

-- the options in which the statement at an index stands
pub options_at : (t : Tables) (k : ℕ) (ss : List Statement) (i : ℕ) (d : Options) → i < length ss → get_or (options_from t k ss) i d ≡ (after_all t k (take i ss)).options
options_at t k [] i d inside = absurd (omega arith)
options_at t k (s ∷ ss) zero d inside = refl
options_at t k (s ∷ ss) (suc i) d inside = options_at (after t k s.kind) (suc k) ss i d (omega arith)

pub options_length : (t : Tables) (k : ℕ) (ss : List Statement) → length (options_from t k ss) ≡ length ss
options_length t k [] = refl
options_length t k (s ∷ ss) = ap suc (options_length (after t k s.kind) (suc k) ss)

-- how many options are kept after a choice: pushes without their pop
abbrev pub depth_chosen : ℕ → Choice → ℕ
depth_chosen depth Push = suc depth
depth_chosen depth Pop = depth - 1
depth_chosen depth _ = depth

abbrev depth_by : ℕ → Option Choice → ℕ
depth_by depth None = depth
depth_by depth (Some choice) = depth_chosen depth choice

-- and after a statement
abbrev pub depth_after : ℕ → StatementKind → ℕ
depth_after depth (Directs directive) = depth_by depth (choice_in directive)
depth_after depth _ = depth

if_kept : (b : Bool) (t u : Tables) (kept : List Options) → t.kept ≡ kept → u.kept ≡ kept → (if b then t else u).kept ≡ kept
if_kept true t u kept e f = e
if_kept false t u kept e f = f

set_kept : (t : Tables) (found : Option Assignment) → (with_assignment t found).kept ≡ t.kept
set_kept t None = refl
set_kept t (Some s) = if_kept (may_set t s.ordinal s.name s.meaning) _ t t.kept refl refl

section_kept : (t : Tables) (found : Option Section) → (with_section t found).kept ≡ t.kept
section_kept t None = refl
section_kept t (Some section) = entering (λ (u : Tables). u.kept ≡ t.kept) t section (λ n at. refl) (λ room. refl) refl

dropped : (kept : List Options) → length (drop 1 kept) ≡ length kept - 1
dropped [] = refl
dropped (o ∷ kept) = omega arith

choice_depth : (t : Tables) (choice : Choice) → length (with_choice t choice).kept ≡ depth_chosen (length t.kept) choice
choice_depth t Push = refl
choice_depth t Pop = dropped t.kept
choice_depth t Rvc = refl
choice_depth t Norvc = refl
choice_depth t Relax = refl
choice_depth t Norelax = refl
choice_depth t Nopic = refl

chosen_depth : (t : Tables) (found : Option Choice) → length (with_chosen t found).kept ≡ depth_by (length t.kept) found
chosen_depth t None = refl
chosen_depth t (Some choice) = choice_depth t choice

contribution_kept : (t : Tables) (v : Expression → Value) (c : Contribution) → (with_contribution t v c).kept ≡ t.kept
contribution_kept t v Nothing = refl
contribution_kept t v _ = refl

directive_depth : (t : Tables) (o : ℕ) (d : Directive) → length (after_directive t o d).kept ≡ depth_by (length t.kept) (choice_in d)
directive_depth t o d =
    let v : Expression → Value = value_by_tables t false o (here t) in
    let entered = with_section t (entered_by d) in
    let named = with_assignment entered (assigned_by v o d) in
    ap (λ l. length l) (contribution_kept (with_chosen named (choice_in d)) v (contribution d))
    ∙ chosen_depth named (choice_in d)
    ∙ ap (λ l. depth_by (length l) (choice_in d)) (set_kept entered (assigned_by v o d) ∙ section_kept t (entered_by d))

pub after_depth : (t : Tables) (o : ℕ) (s : StatementKind) → length (after t o s).kept ≡ depth_after (length t.kept) s
after_depth t o (Label name) = ap (λ l. length l) (if_kept (is_defined t o name) t _ t.kept refl refl)
after_depth t o (Numbered number) = refl
after_depth t o (Instruction mnemonic operands) = refl
after_depth t o (Directs d) = directive_depth t o d
