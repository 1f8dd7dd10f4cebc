-- The statements of a source one after another: each stands where the data before it in its section end.

use Rattle.std.proofs.Common.{◌≡◌, ℕ, suc, ◌+◌, ◌<◌, ◌≤◌, Bool, true, false, ◌&&◌, ◌==◌, List, [], ◌∷◌, ◌++◌, length, refl, sym, ap, ◌∙◌, subst, arith, Option, Some, None, cond}
use Rattle.std.specs.Prelude.{slice_index_or, if◌then◌else◌}
use Rattle.std.specs.List.{find, AllByRecursion}
use Rattle.std.proofs.lemmas.Bool.{eq-eqb, eqb-true, and_parts}
use Rattle.rv_expression_laws.specs.Values.{Meaning, Known, InSection, Open, Refused, Value, Constant, Symbolic, Difference, Faulty, add}
use Rattle.rv_expression_laws.specs.Expression.{Primary, Literal, Symbol, Here, Reference}
use Rattle.rv_statement_laws.specs.Statement.{StatementKind, Label, Numbered, Instruction, Directs, Statement, Expression, Directive, Enters, Opens, Binds, Sets, Chooses, Ignored, Aligns, Emits}
use Rattle.rv_unit_laws.specs.Sections.{section_at}
use Rattle.rv_unit_laws.specs.Contributions.{Nothing, contribution}
use Rattle.rv_unit_laws.specs.Tables.{Tables, SectionOffset, here, stood, value_by_tables, longest_section, after, after_all, opened_of, enters, alignment_at, alignments_of, alignment_of, gives_location, assigned}
use Rattle.rv_expression_laws.specs.Codes.{lowest}
use Rattle.rv_unit_laws.specs.Faults.{first_fault_from, faults}
use Rattle.rv_unit_laws.proofs.AskedLemmas.{home_same}
use Rattle.rv_unit_laws.proofs.BeforeLemmas.{IsBefore, before_after, before_all}
use Rattle.rv_unit_laws.proofs.GrownLemmas.{BeginsAt, ArePowers, puts, grows_after, begins_multiple}
use Rattle.rv_unit_laws.proofs.OpenedLemmas.{IsStood, stood_all, open_inside}
use Rattle.rv_unit_laws.proofs.SettledLemmas.{constant_later}
use Rattle.rv_unit_laws.proofs.ShortLemmas.{AreShort, short_after}
use Rattle.rv_source_laws.specs.Located.{Located, located_now, located_from, is_placed, is_placed_directive}
use Rattle.rv_source_laws.specs.Program.{place_of}
use Rattle.rv_source_laws.proofs.HeldLemmas.{no_fault, no_lowest}
use Rattle.rv_value_theorems.proofs.EarlierLemmas.{constant_before}
use Rattle.rv_value_theorems.proofs.AddedLemmas.{contribution_in, own_bytes, IsSound, end_at, end_elsewhere, statement_sound, Adds, adds}

-- the values of a statement's expressions, by the tables of its source
abbrev pub value_in : Tables → Located → Expression → Value
value_in all l e = value_by_tables all true l.ordinal (place_of l) e

-- the bytes that it has where it is data
abbrev pub bytes_in : Tables → Located → ℕ
bytes_in all l = own_bytes (value_in all l) l.offset (contribution_in l.kind)

-- what the walk finds of each statement, among all of its file
pub record IsTold (all : Tables) (file : List Located) (l : Located) : Type 0 where
  pub found : find (λ s. s.ordinal == l.ordinal) file ≡ Some l
  pub short : l.offset ≤ longest_section
  pub sound : IsSound (value_in all l) (alignment_at all l.section) (contribution_in l.kind)
  pub absent : l.placed ≡ false → contribution_in l.kind ≡ Nothing

-- the statements that pass a test, from an offset on: each adds its bytes
abbrev pub Runs : (Located → Bool) → (Located → ℕ) → ℕ → List Located → Type 0
Runs test bytes n [] = Unit {0}
Runs test bytes n (l ∷ ls) = (test l ≡ true → l.offset ≡ n) × Runs test bytes (n + (if test l then bytes l else 0)) ls

abbrev pub is_in : ℕ → ℕ → Located → Bool
is_in file section l = (l.file == file) && (l.section == section)

-- a statement without a row contributes nothing
unplaced : (t : Tables) (k : ℕ) (says : StatementKind) → is_placed t k says ≡ false → contribution_in says ≡ Nothing
unplaced t k (Label name) e = absurd (cc)
unplaced t k (Numbered number) e = absurd (cc)
unplaced t k (Instruction mnemonic operands) e = absurd (cc)
unplaced t k (Directs (Enters standard)) e = refl
unplaced t k (Directs (Opens name flags kind)) e = refl
unplaced t k (Directs (Binds binding names)) e = refl
unplaced t k (Directs (Sets name x)) e = refl
unplaced t k (Directs (Chooses choice)) e = refl
unplaced t k (Directs Ignored) e = refl
unplaced t k (Directs _) e = absurd (cc)

short_if : (b : Bool) (p q : SectionOffset) → p.offset ≤ longest_section → q.offset ≤ longest_section → (if b then p else q).offset ≤ longest_section
short_if true p q h k = h
short_if false p q h k = k

-- the alignment of a directive divides that of its section
multiple_at : (t : Tables) (k : ℕ) (d : Directive) (ss : List Statement) → ArePowers (alignments_of t) → IsStood t
    → BeginsAt (alignment_of (value_by_tables t false k (here t)) d) (alignment_at (after_all (after t k (Directs d)) (suc k) ss) (stood t k (Directs d)).section)
multiple_at t k (Aligns form e) ss powers whole = begins_multiple t k (suc k) (Aligns form e) ss refl powers (open_inside (opened_of t) whole.opened)
multiple_at t k (Enters standard) ss powers whole = tt
multiple_at t k (Opens name flags kind) ss powers whole = tt
multiple_at t k (Binds binding names) ss powers whole = tt
multiple_at t k (Sets name e) ss powers whole = tt
multiple_at t k (Emits contents) ss powers whole = tt
multiple_at t k (Chooses choice) ss powers whole = tt
multiple_at t k Ignored ss powers whole = tt

-- the tables before a statement
pub record IsReady (t : Tables) (k : ℕ) : Type 0 where
  pub whole : IsStood t
  pub before : IsBefore t k
  pub powers : ArePowers (alignments_of t)
  pub short : AreShort t

ready_next : (t : Tables) (k : ℕ) (s : Statement) → IsReady t k → IsReady (after t k s.kind) (suc k)
ready_next t k s h = record {
  whole = stood_all t k (s ∷ []) h.whole;
  before = before_after t k s.kind h.before;
  powers = (grows_after t k s.kind).powers h.powers;
  short = short_after t k s.kind h.short;
}

module _ (file : ℕ) (t : Tables) (k : ℕ) (s : Statement) (ss : List Statement) (ready : IsReady t k) (good : first_fault_from (after_all t k (s ∷ ss)) t k (s ∷ ss) ≡ None) where
  abbrev all : Tables
  all = after_all t k (s ∷ ss)

  abbrev now : Located
  now = located_now file k t s

  parts : (lowest (faults all t k s.kind) ≡ None) × (first_fault_from all (after t k s.kind) (suc k) ss ≡ None)
  parts = no_fault s.line (lowest (faults all t k s.kind)) (first_fault_from all (after t k s.kind) (suc k) ss) good

  none : faults all t k s.kind ≡ []
  none = no_lowest (faults all t k s.kind) parts.0

  inside : t.current < length (opened_of t).sections
  inside = open_inside (opened_of t) ready.whole.opened

  later : (e : Expression) (n : ℕ) → value_by_tables all false k (here t) e ≡ Constant n → value_by_tables all true k (here t) e ≡ Constant n
  later e n is = constant_later all (k + length (s ∷ ss)) k (before_all t k (s ∷ ss) ready.before) (here t) e n is

  sooner : (e : Expression) (n : ℕ) → value_by_tables all false k (here t) e ≡ Constant n → value_by_tables t false k (here t) e ≡ Constant n
  sooner e n is = constant_before t k (s ∷ ss) ready.whole (here t) inside e n is

  -- an alignment and a count stand in the current section
  sound_at : (says : StatementKind) → IsSound (λ e. value_by_tables all true k (here t) e) (alignment_at all (stood t k says).section) (contribution_in says)
      → IsSound (λ e. value_by_tables all true k (stood t k says) e) (alignment_at all (stood t k says).section) (contribution_in says)
  sound_at (Directs (Enters standard)) h = tt
  sound_at (Directs (Opens name flags kind)) h = tt
  sound_at (Directs (Binds binding names)) h = tt
  sound_at (Directs (Sets name e)) h = tt
  sound_at (Directs (Chooses choice)) h = tt
  sound_at (Directs Ignored) h = tt
  sound_at (Directs d) h = h
  sound_at (Label name) h = tt
  sound_at (Numbered number) h = tt
  sound_at (Instruction mnemonic operands) h = tt

  pub told_now : (others : List Located) → find (λ l. l.ordinal == k) others ≡ Some now → IsTold all others now
  told_now others found = record {
    found = found;
    short = short_if (enters s.kind) (here (after t k s.kind)) (here t) (short_after t k s.kind ready.short (after t k s.kind).current) (ready.short t.current);
    sound = sound_at s.kind
        (statement_sound all t k later sooner s.kind (alignment_at all (stood t k s.kind).section) none
        (λ d is. subst (λ says. BeginsAt (alignment_of (value_by_tables t false k (here t)) d) (alignment_at (after_all (after t k says) (suc k) ss) (stood t k says).section)) (sym is) (multiple_at t k d ss ready.powers ready.whole)));
    absent = unplaced t k s.kind;
  }

  -- the section that is current stays one of data
  home_data : (says : StatementKind) → (section_at (opened_of all) (stood t k says).section).executable ≡ false → enters says ≡ false → (section_at (opened_of t) t.current).executable ≡ false
  home_data says other stays =
      ap (λ h. h.executable) (sym (home_same t k (s ∷ ss) ready.whole.opened))
      ∙ ap (λ b. (section_at (opened_of all) (if b then here (after t k says) else here t).section).executable) (sym stays) ∙ other

  pub next_end : (section : ℕ) → (section_at (opened_of all) section).executable ≡ false
      → (is_in file section now ≡ true → now.offset ≡ end_at t section) × (end_at (after t k s.kind) section ≡ end_at t section + (if is_in file section now then bytes_in all now else 0))
  next_end section other = go (now.section == section) refl
    where
      own : (file == file) ≡ true
      own = eq-eqb file file refl

      go : (b : Bool) → (now.section == section) ≡ b
          → (is_in file section now ≡ true → now.offset ≡ end_at t section) × (end_at (after t k s.kind) section ≡ end_at t section + (if is_in file section now then bytes_in all now else 0))
      go true e =
          let here_is : now.section ≡ section = eqb-true now.section section e in
          let other' : (section_at (opened_of all) now.section).executable ≡ false = ap (λ j. (section_at (opened_of all) j).executable) here_is ∙ other in
          let h = adds all t k later sooner inside s.kind none (home_data s.kind other') in
          let test : is_in file section now ≡ true = ap (λ b. b && (now.section == section)) own ∙ e in (
            λ passes. h.0 ∙ ap (end_at t) here_is,
            ap (end_at (after t k s.kind)) (sym here_is) ∙ h.1 ∙ ap (λ n. n + bytes_in all now) (h.0 ∙ ap (end_at t) here_is)
                ∙ ap (λ b. end_at t section + (if b then bytes_in all now else 0)) (sym test),
          )
      go false e =
          let test : is_in file section now ≡ false = ap (λ b. b && (now.section == section)) own ∙ e in
          let apart : now.section ≡ section → ⊥ = λ f. let g : (now.section == section) ≡ true = eq-eqb now.section section f in cc in (
            λ passes. absurd (cc),
            end_elsewhere t k s.kind section apart ∙ (let f : end_at t section ≡ end_at t section + 0 = omega arith in f)
                ∙ ap (λ b. end_at t section + (if b then bytes_in all now else 0)) (sym test),
          )

-- ---- all statements

-- what is found among all is found among those from an ordinal on
abbrev pub AreLast : List Located → ℕ → List Located → Type 0
AreLast others k ls = (j : ℕ) → k ≤ j → find (λ l. l.ordinal == j) others ≡ find (λ l. l.ordinal == j) ls

pub last_next : (others : List Located) (file k : ℕ) (t : Tables) (s : Statement) (ss : List Statement) → AreLast others k (located_from file k t (s ∷ ss)) → AreLast others (suc k) (located_from file (suc k) (after t k s.kind) ss)
last_next others file k t s ss are j more = are j (omega arith) ∙ pass (k == j) refl
  where
    pass : (b : Bool) → (k == j) ≡ b → cond b (Some (located_now file k t s)) (find (λ l. l.ordinal == j) (located_from file (suc k) (after t k s.kind) ss)) ≡ find (λ l. l.ordinal == j) (located_from file (suc k) (after t k s.kind) ss)
    pass true e = absurd (let same : k ≡ j = eqb-true k j e in omega arith)
    pass false e = refl

pub found_now : (others : List Located) (file k : ℕ) (t : Tables) (s : Statement) (ss : List Statement) → AreLast others k (located_from file k t (s ∷ ss)) → find (λ l. l.ordinal == k) others ≡ Some (located_now file k t s)
found_now others file k t s ss are =
    are k (omega arith)
    ∙ ap (λ b. cond b (Some (located_now file k t s)) (find (λ l. l.ordinal == k) (located_from file (suc k) (after t k s.kind) ss))) (eq-eqb k k refl)

pub told_from : (others : List Located) (file : ℕ) (t : Tables) (k : ℕ) (ss : List Statement) → IsReady t k → first_fault_from (after_all t k ss) t k ss ≡ None → AreLast others k (located_from file k t ss)
    → AllByRecursion (IsTold (after_all t k ss) others) (located_from file k t ss)
told_from others file t k [] ready good last = tt
told_from others file t k (s ∷ ss) ready good last = (
  told_now file t k s ss ready good others (found_now others file k t s ss last),
  told_from others file (after t k s.kind) (suc k) ss (ready_next t k s ready) (parts file t k s ss ready good).1 (last_next others file k t s ss last),
)

pub runs_from : (file section : ℕ) (t : Tables) (k : ℕ) (ss : List Statement) → IsReady t k → first_fault_from (after_all t k ss) t k ss ≡ None
    → (section_at (opened_of (after_all t k ss)) section).executable ≡ false
    → Runs (is_in file section) (bytes_in (after_all t k ss)) (end_at t section) (located_from file k t ss)
runs_from file section t k [] ready good other = tt
runs_from file section t k (s ∷ ss) ready good other =
    let h = next_end file t k s ss ready good section other in (
      h.0,
      subst (λ n. Runs (is_in file section) (bytes_in (after_all t k (s ∷ ss))) n (located_from file (suc k) (after t k s.kind) ss)) h.1
          (runs_from file section (after t k s.kind) (suc k) ss (ready_next t k s ready) (parts file t k s ss ready good).1 other),
    )
