-- The sizes of a source's statements tell how long they are as code.

use Rattle.std.proofs.Common.{◌≡◌, ℕ, zero, suc, ◌-◌, Bool, true, false, List, [], ◌∷◌, length, drop, None, refl, sym, ap, subst, arith}
use Rattle.std.specs.Prelude.{slice_index, is_some, if◌then◌else◌}
use Rattle.rv_list_laws.proofs.ElementsLemmas.{first_same}
use Rattle.rv_expression_laws.specs.Values.{Value}
use Rattle.rv_statement_laws.specs.Statement.{StatementKind, Label, Numbered, Instruction, Directs, Expression, Statement}
use Rattle.rv_unit_laws.specs.Faults.{first_unit_fault}
use Rattle.rv_unit_laws.specs.Sections.{text_section}
use Rattle.rv_unit_laws.specs.Tables.{Tables, at_start, tables, opened_of}
use Rattle.rv_source_laws.specs.Located.{Located, located_from}
use Rattle.rv_source_laws.specs.Sizes.{AreLeast}
use Rattle.rv_source_laws.proofs.HeldLemmas.{all_held}
use Rattle.rv_source_laws.proofs.HomesLemmas.{homes_from}
use Rattle.rv_assemble_laws.specs.Refusals.{code_faults_at}
use Rattle.rv_assemble_laws.specs.LaidStatements.{expression_value}
use Rattle.rv_instruction.specs.Code.{near_forms_of, MayHave}
use Rattle.rv_draft.specs.Contents.{statement_padding, data_of, beside_of}
use Rattle.rv_draft.specs.Measure.{HasLength, IsSize, AreSizes}
use Rattle.rv_draft.specs.Lengths.{IsLength, AreLengths, code_length, code_lengths}
use Rattle.rv_assemble_laws.proofs.LeastAllLemmas.{Agree, least_all}

-- ---- one statement

no_padding : (v : Expression → Value) (kind : StatementKind) → statement_padding false v kind ≡ 0
no_padding v (Label name) = refl
no_padding v (Numbered number) = refl
no_padding v (Instruction mnemonic operands) = refl
no_padding v (Directs directive) = refl

-- an instruction has no data
no_data : (b : Bool) (n : ℕ) → ◌≡◌ {A = ℕ} (if b then n else n - 0) n
no_data true n = refl
no_data false n = let same : n - 0 ≡ n = omega arith in same

told_length : (v : Expression → Value) (rvc b : Bool) (faults : List ℕ) (offset : ℕ) (kind : StatementKind) (n : ℕ) → HasLength v rvc faults (beside_of b v offset kind) kind n
    → HasLength v rvc faults (statement_padding b v kind) kind (if b then n else n - data_of v offset kind)
told_length v rvc true faults offset kind n h = h
told_length v rvc false faults offset kind n h = λ sound none found is.
    let whole = h sound none found is in
    let nothing = no_padding v kind in
    omega (arith, whole, nothing)

pub near_same : (t : Tables) (s : Located) (rvc b : Bool) (n : ℕ) (kind : StatementKind) → is_some (near_forms_of rvc kind) ≡ true
    → ◌≡◌ {A = ℕ} (if b then n else n - data_of (λ e. expression_value t s e) s.offset kind) n
near_same t s rvc b n (Label name) near = absurd (cc)
near_same t s rvc b n (Numbered number) near = absurd (cc)
near_same t s rvc b n (Instruction mnemonic operands) near = no_data b n
near_same t s rvc b n (Directs directive) near = absurd (cc)

offered_length : (t : Tables) (s : Located) (rvc b : Bool) (n : ℕ) (kind : StatementKind) → MayHave rvc kind n → MayHave rvc kind (if b then n else n - data_of (λ e. expression_value t s e) s.offset kind)
offered_length t s rvc b n (Label name) h = tt
offered_length t s rvc b n (Numbered number) h = tt
offered_length t s rvc b n (Instruction mnemonic operands) h = subst (MayHave rvc (Instruction mnemonic operands)) (sym (no_data b n)) h
offered_length t s rvc b n (Directs directive) h = tt

pub length_of_size : (t : Tables) (s : Located) (n : ℕ) → IsSize t s n → IsLength t s (code_length t s n)
length_of_size t s n h = record {
  offered = offered_length t s s.options.rvc s.home.executable n s.kind h.offered;
  told = told_length (λ e. expression_value t s e) s.options.rvc s.home.executable (code_faults_at t s) s.offset s.kind n h.told;
}

-- ---- all of them

pub lengths_of_sizes : (t : Tables) (ss : List Located) (ns : List ℕ) → AreSizes t ss ns → AreLengths t ss (code_lengths t ss ns)
lengths_of_sizes t [] [] h = tt
lengths_of_sizes t [] (n ∷ ns) h = absurd h
lengths_of_sizes t (s ∷ ss) [] h = absurd h
lengths_of_sizes t (s ∷ ss) (n ∷ ns) (h, hs) = (length_of_size t s n h, lengths_of_sizes t ss ns hs)

pub lengths_count : (t : Tables) (ss : List Located) (ns : List ℕ) → AreSizes t ss ns → length (code_lengths t ss ns) ≡ length ns
lengths_count t [] [] h = refl
lengths_count t [] (n ∷ ns) h = absurd h
lengths_count t (s ∷ ss) [] h = absurd h
lengths_count t (s ∷ ss) (n ∷ ns) (h, hs) = ap suc (lengths_count t ss ns hs)

pub length_there : (t : Tables) (ss : List Located) (ns : List ℕ) (i : ℕ) (s : Located) (rest : List Located) → AreSizes t ss ns → drop i ss ≡ s ∷ rest
    → slice_index (code_lengths t ss ns) i ≡ code_length t s (slice_index ns i)
length_there t [] ns zero s rest h e = absurd (cc)
length_there t [] ns (suc i) s rest h e = absurd (cc)
length_there t (y ∷ ys) [] i s rest h e = absurd h
length_there t (y ∷ ys) (n ∷ ns) zero s rest h e = ap (λ (l : Located). code_length t l n) (first_same y s ys rest e)
length_there t (y ∷ ys) (n ∷ ns) (suc i) s rest h e = length_there t ys ns i s rest h.1 e

-- in a section of code both are one
code_same : (b : Bool) (n d : ℕ) → b ≡ true → ◌≡◌ {A = ℕ} n (if b then n else d)
code_same true n d e = refl
code_same false n d e = absurd (cc)

lengths_agree : (t : Tables) (ss : List Located) (ns : List ℕ) → AreSizes t ss ns → Agree ss ns (code_lengths t ss ns)
lengths_agree t [] [] h = tt
lengths_agree t [] (n ∷ ns) h = absurd h
lengths_agree t (s ∷ ss) [] h = absurd h
lengths_agree t (s ∷ ss) (n ∷ ns) (h, hs) = (λ e. code_same s.home.executable n (n - data_of (λ x. expression_value t s x) s.offset s.kind) e, lengths_agree t ss ns hs)

-- the least sizes are the least lengths of code
pub least_lengths : (ss : List Statement) (ns : List ℕ) → first_unit_fault ss ≡ None → AreSizes (tables ss) (located_from 1 1 (at_start ss) ss) ns → AreLeast (tables ss) (located_from 1 1 (at_start ss) ss) ns
    → AreLeast (tables ss) (located_from 1 1 (at_start ss) ss) (code_lengths (tables ss) (located_from 1 1 (at_start ss) ss) ns)
least_lengths ss ns good sizes least =
    let t = tables ss in
    let all = located_from 1 1 (at_start ss) ss in
    let homes = homes_from (λ file. (opened_of t).sections) 1 1 (at_start ss) ss refl (text_section, refl) in
    least_all t (opened_of t).sections all ns (code_lengths t all ns) homes (all_held ss good) (lengths_agree t all ns sizes) least
