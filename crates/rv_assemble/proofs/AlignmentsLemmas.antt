-- The alignment of each section of a source is a power of two, from 1 to 4096.

use Rattle.std.proofs.Common.{◌≡◌, ℕ, zero, suc, ◌^◌, ◌<◌, ◌≤◌, Bool, true, false, ◌&&◌, nat_lt, nat_le, List, [], ◌∷◌, ◌++◌, max, refl, sym, ap, ◌∙◌, subst, arith, Option, Some, None}
use Rattle.std.proofs.Math.Pow.{pow-lt}
use Rattle.std.proofs.lemmas.Bool.{and_parts, leb-true, ltb-true, ltb-false}
use Rattle.std.specs.Prelude.{if◌then◌else◌, slice_index_or}
use Rattle.rv_list_laws.proofs.NumbersLemmas.{low_power}
use Rattle.rv_expression_laws.specs.Values.{Value, Constant, Symbolic, Difference, Faulty}
use Rattle.rv_statement_laws.specs.Statement.{StatementKind, Label, Numbered, Instruction, Directs, Statement, Expression, Directive, AlignmentForm, As_power, As_bytes}
use Rattle.rv_statement_laws.specs.declared.directive.Choice.{Choice}
use Rattle.rv_unit_laws.specs.Sections.{Section, entered_by}
use Rattle.rv_unit_laws.specs.Contributions.{Contribution, Nothing, Bytes, Alignment, contribution}
use Rattle.rv_unit_laws.specs.Tables.{Tables, Assignment, at_start, here, value_by_tables, is_power, greatest_alignment, alignment_as, or_none, contributed, changed_at, is_defined, may_set, with_assignment, with_section, with_data, with_contribution, with_choice, with_chosen, assigned_by, choice_in, after, after_directive, after_all, tables, alignments_of}
use Rattle.rv_unit_laws.proofs.EnteringLemmas.{entering}
use Rattle.rv_unit_laws.proofs.GrownLemmas.{IsPower, alignment_new, data_alignments, grown_all}
use Rattle.rv_object_laws.specs.Valid.{is_section_alignment}
use Rattle.rv_draft.proofs.BesideLemmas.{low_if}

-- ---- no alignment is greater

abbrev AreLow : List ℕ → Type 0
AreLow ns = (j : ℕ) → slice_index_or ns j 1 ≤ 4096

pub form_low : (form : AlignmentForm) (v : Value) → or_none (alignment_as form v) ≤ 4096
form_low As_power (Constant k) = low_if (nat_lt k 13) (2 ^ k) (λ e. low_power k (ltb-true k 13 e))
form_low As_power (Symbolic p at k) = omega arith
form_low As_power (Difference p q k) = omega arith
form_low As_power (Faulty c) = omega arith
form_low As_bytes (Constant n) = low_if (is_power n && nat_le n greatest_alignment) n (λ e. leb-true n greatest_alignment (and_parts (is_power n) (nat_le n greatest_alignment) e).1)
form_low As_bytes (Symbolic p at k) = omega arith
form_low As_bytes (Difference p q k) = omega arith
form_low As_bytes (Faulty c) = omega arith

changed_low : (i a : ℕ) (ns : List ℕ) → a ≤ 4096 → AreLow ns → AreLow (changed_at i (λ n. max n (max 1 a)) ns)
changed_low i a [] l h j = h j
changed_low zero a (n ∷ ns) l h zero = let m = h 0 in omega (arith, m, l)
changed_low zero a (n ∷ ns) l h (suc j) = h (suc j)
changed_low (suc i) a (n ∷ ns) l h zero = h 0
changed_low (suc i) a (n ∷ ns) l h (suc j) = changed_low i a ns l (λ k. h (suc k)) j

abbrev IsLow : Tables → Type 0
IsLow t = AreLow (alignments_of t)

either : (b : Bool) (t u : Tables) → IsLow t → IsLow u → IsLow (if b then t else u)
either true t u h k = h
either false t u h k = k

low_section : (t : Tables) (found : Option Section) → IsLow t → IsLow (with_section t found)
low_section t None h = h
low_section t (Some s) h = entering (λ (u : Tables). IsLow u) t s (λ n at. h) (λ room j. alignment_new (λ n. n ≤ 4096) t s j (omega arith) (omega arith) (h j)) h

low_set : (t : Tables) (found : Option Assignment) → IsLow t → IsLow (with_assignment t found)
low_set t None h = h
low_set t (Some s) h = either (may_set t s.ordinal s.name s.meaning) (record t { assignments = s ∷ t.assignments }) t h h

low_choice : (t : Tables) (choice : Choice) → IsLow t → IsLow (with_choice t choice)
low_choice t choice h = h

low_chosen : (t : Tables) (found : Option Choice) → IsLow t → IsLow (with_chosen t found)
low_chosen t None h = h
low_chosen t (Some choice) h = low_choice t choice h

low_data : (t : Tables) (bytes : ℕ) (alignment : Option ℕ) → or_none alignment ≤ 4096 → IsLow t → IsLow (with_data t bytes alignment)
low_data t bytes alignment l h = subst AreLow (sym (data_alignments t bytes alignment)) (changed_low t.current (or_none alignment) (alignments_of t) l h)

low_contribution : (t : Tables) (v : Expression → Value) (c : Contribution) → IsLow t → IsLow (with_contribution t v c)
low_contribution t v Nothing h = h
low_contribution t v (Bytes contents) h = low_data t (contributed v (here t).offset (Bytes contents)) None (omega arith) h
low_contribution t v (Alignment form number) h = low_data t (contributed v (here t).offset (Alignment form number)) (alignment_as form (v number)) (form_low form (v number)) h

low_directive : (t : Tables) (k : ℕ) (d : Directive) → IsLow t → IsLow (after_directive t k d)
low_directive t k d h =
    let v : Expression → Value = value_by_tables t false k (here t) in
    let entered = with_section t (entered_by d) in
    let named = with_assignment entered (assigned_by v k d) in
    low_contribution (with_chosen named (choice_in d)) v (contribution d) (low_chosen named (choice_in d) (low_set entered (assigned_by v k d) (low_section t (entered_by d) h)))

low_after : (t : Tables) (k : ℕ) (says : StatementKind) → IsLow t → IsLow (after t k says)
low_after t k (Label name) h = either (is_defined t k name) t (record t { labels = t.labels ++ record { name = name; ordinal = k; place = here t } ∷ [] }) h h
low_after t k (Numbered number) h = h
low_after t k (Instruction mnemonic operands) h = h
low_after t k (Directs d) h = low_directive t k d h

low_all : (t : Tables) (k : ℕ) (ss : List Statement) → IsLow t → IsLow (after_all t k ss)
low_all t k [] h = h
low_all t k (s ∷ ss) h = low_all (after t k s.kind) (suc k) ss (low_after t k s.kind h)

low_start : (ss : List Statement) (j : ℕ) → slice_index_or (alignments_of (at_start ss)) j 1 ≤ 4096
low_start ss zero = omega arith
low_start ss (suc zero) = omega arith
low_start ss (suc (suc j)) = omega arith

-- ---- so each is one that sections have

a_power : (k : ℕ) → k < 13 → is_section_alignment (2 ^ k) ≡ true
a_power zero h = refl
a_power (suc zero) h = refl
a_power (suc (suc zero)) h = refl
a_power (suc (suc (suc zero))) h = refl
a_power (suc (suc (suc (suc zero)))) h = refl
a_power (suc (suc (suc (suc (suc zero))))) h = refl
a_power (suc (suc (suc (suc (suc (suc zero)))))) h = refl
a_power (suc (suc (suc (suc (suc (suc (suc zero))))))) h = refl
a_power (suc (suc (suc (suc (suc (suc (suc (suc zero)))))))) h = refl
a_power (suc (suc (suc (suc (suc (suc (suc (suc (suc zero))))))))) h = refl
a_power (suc (suc (suc (suc (suc (suc (suc (suc (suc (suc zero)))))))))) h = refl
a_power (suc (suc (suc (suc (suc (suc (suc (suc (suc (suc (suc zero))))))))))) h = refl
a_power (suc (suc (suc (suc (suc (suc (suc (suc (suc (suc (suc (suc zero)))))))))))) h = refl
a_power (suc (suc (suc (suc (suc (suc (suc (suc (suc (suc (suc (suc (suc k))))))))))))) h = absurd (omega (arith, h))

below : (k : ℕ) → 2 ^ k ≤ 4096 → k < 13
below k low = go (nat_lt k 13) refl
  where
    go : (b : Bool) → nat_lt k 13 ≡ b → k < 13
    go true e = ltb-true k 13 e
    go false e =
        let over : 13 ≤ k = ltb-false k 13 e in
        let more : 2 ^ 12 < 2 ^ k = pow-lt (let f : 12 < k = omega (arith, over) in f) in
        absurd (omega (arith, more, low))

of_power : (n : ℕ) → IsPower n → n ≤ 4096 → is_section_alignment n ≡ true
of_power n (k, is) low = ap is_section_alignment is ∙ a_power k (below k (subst (λ m. m ≤ 4096) is low))

pub aligned : (ss : List Statement) (j : ℕ) → is_section_alignment (slice_index_or (alignments_of (tables ss)) j 1) ≡ true
aligned ss j = of_power (slice_index_or (alignments_of (tables ss)) j 1) (grown_all ss 1 ss j) (low_all (at_start ss) 1 ss (low_start ss) j)
