-- No section has more data than the longest may have.

use Rattle.std.proofs.Common.{◌≡◌, ℕ, zero, suc, ◌+◌, ◌≤◌, Bool, true, false, nat_le, List, [], ◌∷◌, ◌++◌, map, refl, sym, subst, arith, Option, Some, None}
use Rattle.std.specs.Prelude.{slice_index_or, if◌then◌else◌}
use Rattle.std.proofs.lemmas.Bool.{leb-true}
use Rattle.rv_expression_laws.specs.Values.{Value}
use Rattle.rv_statement_laws.specs.Statement.{StatementKind, Label, Numbered, Instruction, Directs, Statement, Expression, Directive}
use Rattle.rv_statement_laws.specs.declared.directive.Choice.{Choice}
use Rattle.rv_unit_laws.specs.Sections.{Section, entered_by, current_section}
use Rattle.rv_unit_laws.specs.Contributions.{Contribution, Nothing, Bytes, Alignment, contribution}
use Rattle.rv_unit_laws.specs.Tables.{Tables, Extent, Assignment, at_start, here, value_by_tables, longest_section, within, padding, data_size, alignment_as, contributed, contribution_alignment, counted_in, changed_at, is_defined, may_set, with_assignment, with_section, with_data, with_contribution, with_choice, with_chosen, with_numeric_label, assigned_by, choice_in, after, after_directive, opened_of, ends_of}
use Rattle.rv_unit_laws.proofs.EnteringLemmas.{entering, with_new}
use Rattle.rv_unit_laws.proofs.GrownLemmas.{data_ends, end_new}

abbrev pub AreShort : Tables → Type 0
AreShort t = (j : ℕ) → slice_index_or (ends_of t) j 0 ≤ longest_section

-- ---- what is added

within_short : (offset bytes : ℕ) → offset ≤ longest_section → offset + within offset bytes ≤ longest_section
within_short offset bytes low = by (nat_le (offset + bytes) longest_section) refl
  where
    by : (b : Bool) → nat_le (offset + bytes) longest_section ≡ b → offset + (if b then bytes else 0) ≤ longest_section
    by true e = leb-true (offset + bytes) longest_section e
    by false e = omega (arith, low)

contributed_short : (v : Expression → Value) (offset : ℕ) (c : Contribution) → offset ≤ longest_section → offset + contributed v offset c ≤ longest_section
contributed_short v offset Nothing low = omega (arith, low)
contributed_short v offset (Bytes contents) low = within_short offset (data_size v contents) low
contributed_short v offset (Alignment form number) low = within_short offset (padding (alignment_as form (v number)) offset) low

counted_short : (section : Section) (offset bytes : ℕ) → offset + bytes ≤ longest_section → offset + counted_in section bytes ≤ longest_section
counted_short section offset bytes low = by section.executable
  where
    by : (b : Bool) → offset + (if b then 0 else bytes) ≤ longest_section
    by true = omega (arith, low)
    by false = low

changed_short : (i : ℕ) (change : ℕ → ℕ) (ns : List ℕ) (most : ℕ) → ((j : ℕ) → slice_index_or ns j 0 ≤ most) → change (slice_index_or ns i 0) ≤ most → (j : ℕ) → slice_index_or (changed_at i change ns) j 0 ≤ most
changed_short i change [] most h low j = h j
changed_short zero change (n ∷ ns) most h low zero = low
changed_short zero change (n ∷ ns) most h low (suc j) = h (suc j)
changed_short (suc i) change (n ∷ ns) most h low zero = h 0
changed_short (suc i) change (n ∷ ns) most h low (suc j) = changed_short i change ns most (λ k. h (suc k)) low j

short_data : (t : Tables) (bytes : ℕ) (alignment : Option ℕ) → AreShort t → (here t).offset + bytes ≤ longest_section → AreShort (with_data t bytes alignment)
short_data t bytes alignment h low j =
    subst (λ l. slice_index_or l j 0 ≤ longest_section) (sym (data_ends t bytes alignment))
    (changed_short t.current (λ n. n + counted_in (current_section (opened_of t)) bytes) (ends_of t) longest_section h
    (counted_short (current_section (opened_of t)) (here t).offset bytes low) j)

short_contribution : (t : Tables) (v : Expression → Value) (c : Contribution) → AreShort t → AreShort (with_contribution t v c)
short_contribution t v Nothing h = h
short_contribution t v (Bytes contents) h = short_data t (contributed v (here t).offset (Bytes contents)) None h (contributed_short v (here t).offset (Bytes contents) (h t.current))
short_contribution t v (Alignment form number) h =
    short_data t (contributed v (here t).offset (Alignment form number)) (contribution_alignment v (Alignment form number)) h (contributed_short v (here t).offset (Alignment form number) (h t.current))

-- ---- one statement

short_same : (t u : Tables) → u.extents ≡ t.extents → AreShort t → AreShort u
short_same t u same h j = subst (λ l. slice_index_or (map (λ (e : Extent). e.bytes) l) j 0 ≤ longest_section) (sym same) (h j)

short_if : (b : Bool) (t u : Tables) → AreShort t → AreShort u → AreShort (if b then t else u)
short_if true t u h k = h
short_if false t u h k = k

short_set : (t : Tables) (found : Option Assignment) → AreShort t → AreShort (with_assignment t found)
short_set t None h = h
short_set t (Some s) h = short_if (may_set t s.ordinal s.name s.meaning) (record t { assignments = s ∷ t.assignments }) t (short_same t (record t { assignments = s ∷ t.assignments }) refl h) h

short_new : (t : Tables) (s : Section) → AreShort t → AreShort (with_new t s)
short_new t s h j = subst (λ n. n ≤ longest_section) (sym (end_new t s j)) (h j)

short_section : (t : Tables) (section : Option Section) → AreShort t → AreShort (with_section t section)
short_section t None h = h
short_section t (Some section) h = entering AreShort t section (λ n at. short_same t (record t { current = n }) refl h) (λ room. short_new t section h) h

short_chosen : (t : Tables) (found : Option Choice) → AreShort t → AreShort (with_chosen t found)
short_chosen t None h = h
short_chosen t (Some choice) h = short_same t (with_choice t choice) refl h

short_directive : (t : Tables) (o : ℕ) (d : Directive) → AreShort t → AreShort (after_directive t o d)
short_directive t o d h =
    let v : Expression → Value = value_by_tables t false o (here t) in
    let entered = with_section t (entered_by d) in
    let named = with_assignment entered (assigned_by v o d) in
    let chose = with_chosen named (choice_in d) in
    short_contribution chose v (contribution d) (short_chosen named (choice_in d) (short_set entered (assigned_by v o d) (short_section t (entered_by d) h)))

pub short_after : (t : Tables) (o : ℕ) (says : StatementKind) → AreShort t → AreShort (after t o says)
short_after t o (Label name) h =
    let u : Tables = record t { labels = t.labels ++ record { name = name; ordinal = o; place = here t } ∷ [] } in
    short_if (is_defined t o name) t u h (short_same t u refl h)
short_after t o (Numbered number) h = short_same t (with_numeric_label t o number) refl h
short_after t o (Instruction mnemonic operands) h = h
short_after t o (Directs d) h = short_directive t o d h

pub short_start : (ss : List Statement) → AreShort (at_start ss)
short_start ss zero = omega arith
short_start ss (suc zero) = omega arith
short_start ss (suc (suc j)) = omega arith
