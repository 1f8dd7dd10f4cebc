-- In a source without faults each statement stands in a section that can hold it.

use Rattle.std.proofs.Common.{◌≡◌, ℕ, suc, Bool, true, false, List, [], ◌∷◌, ◌++◌, refl, sym, subst, Option, Some, None}
use Rattle.std.specs.Prelude.{not, ◌||◌, ◌*◌, min, ⊤, length, flat_map}
use Rattle.std.specs.List.{AllByRecursion}
use Rattle.std.proofs.lemmas.Bool.{or_parts, not-false}
use Rattle.rv_list_laws.proofs.ElementsLemmas.{append_none_parts}
use Rattle.rv_statement_laws.specs.Statement.{StatementKind, Label, Numbered, Instruction, Directs, Statement, Directive, Enters, Opens, Sets, Chooses, Data, Values, Strings, Zeros}
use Rattle.rv_unit_laws.specs.Contributions.{Contribution, Bytes, contribution}
use Rattle.rv_unit_laws.specs.Sections.{Section, is_nobits, section_at, current_section}
use Rattle.rv_unit_laws.specs.Tables.{Tables, at_start, here, value_by_tables, counted, string_bytes, after, tables, stood, opened_of}
use Rattle.rv_expression_laws.specs.Codes.{faulty_if, lowest}
use Rattle.rv_unit_laws.specs.Faults.{StatementFault, at_line, value_faults, size_faults, past_section, contribution_faults, directive_faults, faults, first_fault_from, first_unit_fault}
use Rattle.rv_source_laws.specs.Located.{Located, located_from}
use Rattle.rv_unit_laws.proofs.OpenedLemmas.{after_opened}
use Rattle.rv_unit_laws.proofs.FewLemmas.{no_fault_from}

-- instructions stand in sections of code that have bytes in the file, data in others, and those with bytes in the file in sections that have some
abbrev pub DataHeld : Section → Data → Type 0
DataHeld home (Zeros count) = ⊤
DataHeld home _ = is_nobits home ≡ false

abbrev pub ContributionHeld : Section → Contribution → Type 0
ContributionHeld home (Bytes contents) = (home.executable ≡ false) × DataHeld home contents
ContributionHeld home _ = ⊤

abbrev pub DirectiveHeld : Section → Directive → Type 0
DirectiveHeld home d = ContributionHeld home (contribution d)

abbrev pub IsHeld : Section → StatementKind → Type 0
IsHeld home (Label name) = ⊤
IsHeld home (Numbered number) = ⊤
IsHeld home (Instruction mnemonic operands) = (home.executable ≡ true) × (is_nobits home ≡ false)
IsHeld home (Directs directive) = DirectiveHeld home directive

abbrev pub Held : Located → Type 0
Held s = IsHeld s.home s.kind

-- ---- no code of a fault

pub no_test : (b : Bool) (code : ℕ) → faulty_if b code ≡ [] → b ≡ false
no_test true code e = absurd (cc)
no_test false code e = refl

pub no_lowest : (cs : List ℕ) → lowest cs ≡ None → cs ≡ []
no_lowest [] e = refl
no_lowest (c ∷ cs) e = go (lowest cs) e
  where
    go : (o : Option ℕ) → ◌≡◌ {A = Option ℕ} (elim o [ None ↦ Some c | Some d ↦ Some (min c d) ]) None → (c ∷ cs) ≡ []
    go None f = absurd (cc)
    go (Some d) f = absurd (cc)

pub no_fault : (line : ℕ) (code : Option ℕ) (others : Option StatementFault) → at_line line code others ≡ None → (code ≡ None) × (others ≡ None)
no_fault line None others e = (refl, e)
no_fault line (Some code) others e = absurd (cc)

-- ---- what statements without faults say of the section where they stand

module _ (all t : Tables) (k : ℕ) where
  abbrev home : Section
  home = current_section (opened_of t)

  abbrev Good : Directive → Type 0
  Good d = directive_faults all t k d ≡ []

  stored : (before after : List ℕ) → before ++ (faulty_if (home.executable || is_nobits home) 15 ++ after) ≡ [] → (home.executable ≡ false) × (is_nobits home ≡ false)
  stored before after e =
      let next = append_none_parts before (faulty_if (home.executable || is_nobits home) 15 ++ after) e in
      let test = append_none_parts (faulty_if (home.executable || is_nobits home) 15) after next.1 in
      or_parts home.executable (is_nobits home) (no_test (home.executable || is_nobits home) 15 test.0)

  zeroed : (before after : List ℕ) → before ++ (faulty_if home.executable 15 ++ after) ≡ [] → home.executable ≡ false
  zeroed before after e =
      let next = append_none_parts before (faulty_if home.executable 15 ++ after) e in
      let test = append_none_parts (faulty_if home.executable 15) after next.1 in
      no_test home.executable 15 test.0

  contribution_held : (c : Contribution) → contribution_faults all t k c ≡ [] → ContributionHeld home c
  contribution_held (Bytes (Values width values)) e =
      stored (flat_map (λ e. value_faults width (value_by_tables all true k (here t) e)) values) (past_section home.executable (here t).offset (width * length values)) e
  contribution_held (Bytes (Strings ended strings)) e =
      stored [] (past_section home.executable (here t).offset (length (string_bytes ended strings))) e
  contribution_held (Bytes (Zeros count)) e =
      (zeroed (size_faults (value_by_tables all false k (here t) count)) (elim (counted (value_by_tables all false k (here t) count)) [ None ↦ [] | Some n ↦ past_section home.executable (here t).offset n ]) e, tt)
  contribution_held _ e = tt

  directive_held : (d : Directive) → Good d → DirectiveHeld home d
  directive_held (Enters standard) e = tt
  directive_held (Opens name flags kind) e = tt
  directive_held (Sets name expression) e = tt
  directive_held (Chooses choice) e = tt
  directive_held d e = contribution_held (contribution d) e

  code : faulty_if (not home.executable || is_nobits home) 15 ≡ [] → (home.executable ≡ true) × (is_nobits home ≡ false)
  code e =
      let parts = or_parts (not home.executable) (is_nobits home) (no_test (not home.executable || is_nobits home) 15 e) in
      (not-false home.executable parts.0, parts.1)

  held : (says : StatementKind) → faults all t k says ≡ [] → IsHeld home says
  held (Label name) e = tt
  held (Numbered number) e = tt
  held (Instruction mnemonic operands) e = code e
  held (Directs directive) e = directive_held directive e

  -- a statement that enters no section stands in the current one; one that enters a section holds nothing
  directive_at : (d : Directive) → DirectiveHeld home d → DirectiveHeld (section_at (opened_of (after t k (Directs d))) (stood t k (Directs d)).section) d
  directive_at (Enters standard) h = tt
  directive_at (Opens name flags kind) h = tt
  directive_at d h = subst (λ o. DirectiveHeld (section_at o t.current) d) (sym (after_opened t k (Directs d))) h

  held_at : (says : StatementKind) → IsHeld home says → IsHeld (section_at (opened_of (after t k says)) (stood t k says).section) says
  held_at (Label name) h = tt
  held_at (Numbered number) h = tt
  held_at (Instruction mnemonic operands) h = h
  held_at (Directs directive) h = directive_at directive h

pub held_from : (all : Tables) (file k : ℕ) (t : Tables) (ss : List Statement) → first_fault_from all t k ss ≡ None → AllByRecursion Held (located_from file k t ss)
held_from all file k t [] e = tt
held_from all file k t (s ∷ ss) e =
    let parts = no_fault s.line (lowest (faults all t k s.kind)) (first_fault_from all (after t k s.kind) (suc k) ss) e in
    (held_at all t k s.kind (held all t k s.kind (no_lowest (faults all t k s.kind) parts.0)), held_from all file (suc k) (after t k s.kind) ss parts.1)

-- those of a source
pub all_held : (ss : List Statement) → first_unit_fault ss ≡ None → AllByRecursion Held (located_from 1 1 (at_start ss) ss)
all_held ss e = held_from (tables ss) 1 1 (at_start ss) ss (no_fault_from ss e)
