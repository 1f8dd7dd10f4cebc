-- What a statement without faults adds to its section of data: the bytes that the values of its expressions say.

use Rattle.std.proofs.Common.{◌≡◌, ℕ, zero, suc, ◌+◌, ◌*◌, ◌<◌, Bool, true, false, ◌||◌, List, [], ◌∷◌, ◌++◌, length, refl, sym, ap, ◌∙◌, subst, arith, Option, Some, None}
use Rattle.std.specs.Prelude.{not, flat_map, slice_index_or, if◌then◌else◌, ⊤, ◌^◌, nat_lt}
use Rattle.std.proofs.lemmas.Bool.{not-false}
use Rattle.rv_list_laws.proofs.ElementsLemmas.{append_none_parts}
use Rattle.rv_expression_laws.specs.Codes.{faulty_if}
use Rattle.rv_expression_laws.specs.Values.{Value, Constant, Symbolic, Difference, Faulty}
use Rattle.rv_statement_laws.specs.Statement.{StatementKind, Label, Numbered, Instruction, Directs, Expression, Directive, Enters, Opens, Binds, Sets, Chooses, Ignored, Data, Values, Strings, Zeros, AlignmentForm, As_power, As_bytes, Aligns, Emits}
use Rattle.rv_statement_laws.specs.declared.directive.Choice.{Choice}
use Rattle.rv_unit_laws.specs.Sections.{Section, is_nobits, section_at, current_section, entered_by}
use Rattle.rv_unit_laws.specs.Contributions.{Contribution, Nothing, Bytes, Alignment, contribution}
use Rattle.rv_unit_laws.specs.Tables.{Tables, Assignment, here, stood, value_by_tables, alignment_of, alignment_as, contribution_alignment, counted, or_none, within, padding, contributed, string_bytes, data_size, changed_at, counted_in, is_defined, may_set, with_assignment, with_section, with_data, with_contribution, with_choice, with_chosen, with_numeric_label, assigned_by, choice_in, after, after_directive, enters, opened_of, ends_of}
use Rattle.rv_unit_laws.specs.Faults.{value_faults, size_faults, number_faults, stored_faults, data_faults, code_alignment_faults, past_section, alignment_faults, contribution_faults, directive_faults, faults}
use Rattle.rv_unit_laws.proofs.EnteringLemmas.{with_new, entering}
use Rattle.rv_unit_laws.proofs.GrownLemmas.{BeginsAt, puts, data_ends, end_new, end_behind}
use Rattle.rv_unit_laws.proofs.TablesLemmas.{within_fits}
use Rattle.rv_source_laws.proofs.HeldLemmas.{no_test}
use Rattle.rv_source_laws.proofs.TablesLemmas.{past_fits}

abbrev pub contribution_in : StatementKind → Contribution
contribution_in (Directs d) = contribution d
contribution_in _ = Nothing

-- the bytes of a contribution at an offset, by the values of expressions
abbrev pub own_bytes : (Expression → Value) → ℕ → Contribution → ℕ
own_bytes v offset Nothing = 0
own_bytes v offset (Bytes contents) = data_size v contents
own_bytes v offset (Alignment form number) = padding (alignment_as form (v number)) offset

-- the count of data is one
abbrev pub HasCount : (Expression → Value) → Data → Type 0
HasCount v (Zeros count) = (n : ℕ) × (v count ≡ Constant n) × (counted (v count) ≡ Some n)
HasCount v _ = ⊤

-- its count is one, and its alignment divides that of its section
abbrev pub IsSound : (Expression → Value) → (begins : ℕ) → Contribution → Type 0
IsSound v begins Nothing = ⊤
IsSound v begins (Bytes contents) = HasCount v contents
IsSound v begins (Alignment form number) = BeginsAt (alignment_as form (v number)) begins

-- ---- what no fault says

a_count : (v : Value) → size_faults v ≡ [] → (n : ℕ) × (v ≡ Constant n) × (counted v ≡ Some n)
a_count (Constant n) e = (n, refl, ap (λ b. if b then Some n else None) (not-false (nat_lt n (2 ^ 63)) (no_test (not (nat_lt n (2 ^ 63))) 14 e)))
a_count (Symbolic p at k) e = absurd (cc)
a_count (Difference p q k) e = absurd (cc)
a_count (Faulty c) e = absurd (cc)

a_number : (form : AlignmentForm) (v : Value) → number_faults form v ≡ [] → (n : ℕ) × (v ≡ Constant n)
a_number form (Constant n) e = (n, refl)
a_number As_power (Symbolic p at k) e = absurd (cc)
a_number As_power (Difference p q k) e = absurd (cc)
a_number As_power (Faulty c) e = absurd (cc)
a_number As_bytes (Symbolic p at k) e = absurd (cc)
a_number As_bytes (Difference p q k) e = absurd (cc)
a_number As_bytes (Faulty c) e = absurd (cc)

-- ---- the bytes of sections after a statement

abbrev pub end_at : Tables → ℕ → ℕ
end_at t j = slice_index_or (ends_of t) j 0

changed_other : (i j : ℕ) (change : ℕ → ℕ) (ns : List ℕ) → (i ≡ j → ⊥) → slice_index_or (changed_at i change ns) j 0 ≡ slice_index_or ns j 0
changed_other i j change [] apart = refl
changed_other zero zero change (n ∷ ns) apart = absurd (apart refl)
changed_other zero (suc j) change (n ∷ ns) apart = refl
changed_other (suc i) zero change (n ∷ ns) apart = refl
changed_other (suc i) (suc j) change (n ∷ ns) apart = changed_other i j change ns (λ e. apart (ap suc e))

end_if : (b : Bool) (t u : Tables) (j n : ℕ) → end_at t j ≡ n → end_at u j ≡ n → end_at (if b then t else u) j ≡ n
end_if true t u j n e f = e
end_if false t u j n e f = f

end_set : (t : Tables) (found : Option Assignment) (j : ℕ) → end_at (with_assignment t found) j ≡ end_at t j
end_set t None j = refl
end_set t (Some s) j = end_if (may_set t s.ordinal s.name s.meaning) (record t { assignments = s ∷ t.assignments }) t j (end_at t j) refl refl

end_section : (t : Tables) (found : Option Section) (j : ℕ) → end_at (with_section t found) j ≡ end_at t j
end_section t None j = refl
end_section t (Some section) j = entering (λ (u : Tables). end_at u j ≡ end_at t j) t section (λ n at. refl) (λ room. end_new t section j) refl

end_chosen : (t : Tables) (found : Option Choice) (j : ℕ) → end_at (with_chosen t found) j ≡ end_at t j
end_chosen t None j = refl
end_chosen t (Some choice) j = refl

end_named : (t : Tables) (k : ℕ) (d : Directive) (j : ℕ) → contribution d ≡ Nothing → end_at (after_directive t k d) j ≡ end_at t j
end_named t k d j none =
    let v : Expression → Value = value_by_tables t false k (here t) in
    let entered = with_section t (entered_by d) in
    let named = with_assignment entered (assigned_by v k d) in
    ap (λ c. end_at (with_contribution (with_chosen named (choice_in d)) v c) j) none
    ∙ end_chosen named (choice_in d) j ∙ end_set entered (assigned_by v k d) j ∙ end_section t (entered_by d) j

-- a statement that contributes nothing
pub end_same : (t : Tables) (k : ℕ) (says : StatementKind) (j : ℕ) → contribution_in says ≡ Nothing → end_at (after t k says) j ≡ end_at t j
end_same t k (Label name) j none = end_if (is_defined t k name) t (record t { labels = t.labels ++ record { name = name; ordinal = k; place = here t } ∷ [] }) j (end_at t j) refl refl
end_same t k (Numbered number) j none = refl
end_same t k (Instruction mnemonic operands) j none = refl
end_same t k (Directs d) j none = end_named t k d j none

end_apart : (t : Tables) (bytes : ℕ) (alignment : Option ℕ) (j : ℕ) → (t.current ≡ j → ⊥) → end_at (with_data t bytes alignment) j ≡ end_at t j
end_apart t bytes alignment j apart =
    ap (λ l. slice_index_or l j 0) (data_ends t bytes alignment)
    ∙ changed_other t.current j (λ n. n + counted_in (current_section (opened_of t)) bytes) (ends_of t) apart

end_put : (t : Tables) (k : ℕ) (c : Contribution) (j : ℕ) → (t.current ≡ j → ⊥)
    → end_at (with_data t (contributed (value_by_tables t false k (here t)) (here t).offset c) (contribution_alignment (value_by_tables t false k (here t)) c)) j ≡ end_at t j
end_put t k c j apart =
    end_apart t (contributed (value_by_tables t false k (here t)) (here t).offset c) (contribution_alignment (value_by_tables t false k (here t)) c) j apart

-- a section other than that of the statement
pub end_elsewhere : (t : Tables) (k : ℕ) (says : StatementKind) (j : ℕ) → ((stood t k says).section ≡ j → ⊥) → end_at (after t k says) j ≡ end_at t j
end_elsewhere t k (Label name) j apart = end_same t k (Label name) j refl
end_elsewhere t k (Numbered number) j apart = refl
end_elsewhere t k (Instruction mnemonic operands) j apart = refl
end_elsewhere t k (Directs (Enters standard)) j apart = end_same t k (Directs (Enters standard)) j refl
end_elsewhere t k (Directs (Opens name flags kind)) j apart = end_same t k (Directs (Opens name flags kind)) j refl
end_elsewhere t k (Directs (Binds binding names)) j apart = end_same t k (Directs (Binds binding names)) j refl
end_elsewhere t k (Directs (Sets name e)) j apart = end_same t k (Directs (Sets name e)) j refl
end_elsewhere t k (Directs (Chooses choice)) j apart = end_same t k (Directs (Chooses choice)) j refl
end_elsewhere t k (Directs Ignored) j apart = end_same t k (Directs Ignored) j refl
end_elsewhere t k (Directs (Aligns form e)) j apart = end_put t k (Alignment form e) j apart
end_elsewhere t k (Directs (Emits contents)) j apart = end_put t k (Bytes contents) j apart

-- ---- one statement

module _ (all t : Tables) (k : ℕ)
    (whole : (e : Expression) (n : ℕ) → value_by_tables all false k (here t) e ≡ Constant n → value_by_tables all true k (here t) e ≡ Constant n)
    (past : (e : Expression) (n : ℕ) → value_by_tables all false k (here t) e ≡ Constant n → value_by_tables t false k (here t) e ≡ Constant n) where
  abbrev home : Section
  home = current_section (opened_of t)

  abbrev offset : ℕ
  offset = (here t).offset

  abbrev w : Expression → Value
  w e = value_by_tables all false k (here t) e

  abbrev v : Expression → Value
  v e = value_by_tables all true k (here t) e

  abbrev first : Expression → Value
  first e = value_by_tables t false k (here t) e

  abbrev past_faults : Option ℕ → List ℕ
  past_faults None = []
  past_faults (Some n) = past_section home.executable offset n

  -- after the faults of its values, of data that has to have bytes in the file
  stored_added : (before : List ℕ) (bytes : ℕ) → home.executable ≡ false → before ++ stored_faults home offset bytes ≡ [] → within offset bytes ≡ bytes
  stored_added before bytes other none =
      let last = append_none_parts before (stored_faults home offset bytes) none in
      let over = append_none_parts (faulty_if (home.executable || is_nobits home) 15) (past_section home.executable offset bytes) last.1 in
      within_fits offset bytes (past_fits home.executable offset bytes other over.1)

  data_added : (contents : Data) → home.executable ≡ false → data_faults all t k contents ≡ [] → within offset (data_size first contents) ≡ data_size v contents
  data_added (Values width values) other none =
      stored_added (flat_map (λ e. value_faults width (v e)) values) (width * length values) other none
  data_added (Strings ended strings) other none = stored_added [] (length (string_bytes ended strings)) other none
  data_added (Zeros count) other none =
      let last = append_none_parts (size_faults (w count)) (faulty_if home.executable 15 ++ past_faults (counted (w count))) none in
      let over = append_none_parts (faulty_if home.executable 15) (past_faults (counted (w count))) last.1 in
      let is = a_count (w count) last.0 in
      let fits = past_fits home.executable offset is.0 other (sym (ap past_faults is.2) ∙ over.1) in
      ap (λ x. within offset (or_none (counted x))) (past count is.0 is.1 ∙ sym is.1) ∙ ap (λ n. within offset (or_none n)) is.2
      ∙ within_fits offset is.0 fits
      ∙ sym (ap (λ x. or_none (counted x)) (whole count is.0 is.1 ∙ sym is.1) ∙ ap or_none is.2)

  added : (c : Contribution) → home.executable ≡ false → contribution_faults all t k c ≡ [] → contributed first offset c ≡ own_bytes v offset c
  added Nothing other none = refl
  added (Bytes contents) other none = data_added contents other none
  added (Alignment form number) other none =
      let alignment = alignment_as form (w number) in
      let parts = append_none_parts (number_faults form (w number)) (alignment_faults home offset alignment) none in
      let is = a_number form (w number) parts.0 in
      let fits = past_fits false offset (padding alignment offset) refl
      (sym (ap (λ c. if c then code_alignment_faults (is_nobits home) alignment else past_section false offset (padding alignment offset)) other) ∙ parts.1) in
      ap (λ x. within offset (padding (alignment_as form x) offset)) (past number is.0 is.1 ∙ sym is.1)
      ∙ within_fits offset (padding alignment offset) fits
      ∙ ap (λ x. padding (alignment_as form x) offset) (is.1 ∙ sym (whole number is.0 is.1))

  data_counted : (contents : Data) → data_faults all t k contents ≡ [] → HasCount v contents
  data_counted (Values width values) none = tt
  data_counted (Strings ended strings) none = tt
  data_counted (Zeros count) none =
      let last = append_none_parts (size_faults (w count)) (faulty_if home.executable 15 ++ past_faults (counted (w count))) none in
      let is = a_count (w count) last.0 in
      let now = whole count is.0 is.1 in
      (is.0, now, ap counted (now ∙ sym is.1) ∙ is.2)

  sound : (c : Contribution) (begins : ℕ) → contribution_faults all t k c ≡ [] → BeginsAt (contribution_alignment first c) begins → IsSound v begins c
  sound Nothing begins none multiple = tt
  sound (Bytes contents) begins none multiple = data_counted contents none
  sound (Alignment form number) begins none multiple =
      let alignment = alignment_as form (w number) in
      let parts = append_none_parts (number_faults form (w number)) (alignment_faults home offset alignment) none in
      let is = a_number form (w number) parts.0 in
      subst (λ x. BeginsAt (alignment_as form x) begins) (past number is.0 is.1 ∙ sym (whole number is.0 is.1)) multiple

  said : (d : Directive) → directive_faults all t k d ≡ [] → contribution_faults all t k (contribution d) ≡ []
  said (Enters standard) none = refl
  said (Opens name flags kind) none = refl
  said (Sets name e) none = refl
  said (Chooses choice) none = refl
  said d none = none

  pub statement_sound : (says : StatementKind) (begins : ℕ) → faults all t k says ≡ [] → ((d : Directive) → says ≡ Directs d → BeginsAt (alignment_of first d) begins) → IsSound v begins (contribution_in says)
  statement_sound (Directs d) begins none multiple = sound (contribution d) begins (said d none) (multiple d refl)
  statement_sound (Label name) begins none multiple = tt
  statement_sound (Numbered number) begins none multiple = tt
  statement_sound (Instruction mnemonic operands) begins none multiple = tt

  module _ (inside : t.current < length (opened_of t).sections) where
    -- what the statement makes of its section
    abbrev pub Adds : StatementKind → Type 0
    Adds says =
        ((stood t k says).offset ≡ end_at t (stood t k says).section)
        × (end_at (after t k says) (stood t k says).section
        ≡ (stood t k says).offset + own_bytes (λ e. value_by_tables all true k (stood t k says) e) (stood t k says).offset (contribution_in says))

    none_here : (says : StatementKind) → stood t k says ≡ here t → contribution_in says ≡ Nothing → Adds says
    none_here says at none = (
      ap (λ p. p.offset) at ∙ ap (λ p. end_at t p.section) (sym at),
      end_same t k says (stood t k says).section none
          ∙ ap (λ p. end_at t p.section) at
          ∙ (let e : offset ≡ offset + 0 = omega arith in e)
          ∙ ap (λ p. p.offset + 0) (sym at)
          ∙ ap (λ c. (stood t k says).offset + own_bytes (λ e. value_by_tables all true k (stood t k says) e) (stood t k says).offset c) (sym none),
    )

    entered_here : (d : Directive) → stood t k (Directs d) ≡ here (after t k (Directs d)) → contribution d ≡ Nothing → Adds (Directs d)
    entered_here d at none = (
      ap (λ p. p.offset) at ∙ end_same t k (Directs d) (after t k (Directs d)).current none ∙ ap (λ p. end_at t p.section) (sym at),
      ap (λ p. end_at (after t k (Directs d)) p.section) at
          ∙ (let e : (here (after t k (Directs d))).offset ≡ (here (after t k (Directs d))).offset + 0 = omega arith in e)
          ∙ ap (λ p. p.offset + 0) (sym at)
          ∙ ap (λ c. (stood t k (Directs d)).offset + own_bytes (λ e. value_by_tables all true k (stood t k (Directs d)) e) (stood t k (Directs d)).offset c) (sym none),
    )

    put_here : (d : Directive) → stood t k (Directs d) ≡ here t → puts d ≡ true → home.executable ≡ false → directive_faults all t k d ≡ [] → Adds (Directs d)
    put_here d at put other none =
        subst (λ p. (p.offset ≡ end_at t p.section)
        × (end_at (after t k (Directs d)) p.section ≡ p.offset + own_bytes (λ e. value_by_tables all true k p e) p.offset (contribution d))) (sym at)
        (refl, end_behind t k d put inside other ∙ ap (λ n. offset + n) (added (contribution d) other (said d none)))

    -- in a section of data
    pub adds : (says : StatementKind) → faults all t k says ≡ [] → (enters says ≡ false → home.executable ≡ false) → Adds says
    adds (Label name) none other = none_here (Label name) refl refl
    adds (Numbered number) none other = none_here (Numbered number) refl refl
    adds (Instruction mnemonic operands) none other = none_here (Instruction mnemonic operands) refl refl
    adds (Directs (Enters standard)) none other = entered_here (Enters standard) refl refl
    adds (Directs (Opens name flags kind)) none other = entered_here (Opens name flags kind) refl refl
    adds (Directs (Binds binding names)) none other = none_here (Directs (Binds binding names)) refl refl
    adds (Directs (Sets name e)) none other = none_here (Directs (Sets name e)) refl refl
    adds (Directs (Chooses choice)) none other = none_here (Directs (Chooses choice)) refl refl
    adds (Directs Ignored) none other = none_here (Directs Ignored) refl refl
    adds (Directs (Aligns form e)) none other = put_here (Aligns form e) refl refl (other refl) none
    adds (Directs (Emits contents)) none other = put_here (Emits contents) refl refl (other refl) none
