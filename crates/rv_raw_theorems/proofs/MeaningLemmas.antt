-- The code of a raw listing's statements is the instructions from which they were written.

use Rattle.std.proofs.Common.{◌≡◌, ℕ, ℤ, pos, ◌%◌, ◌^◌, ◌<◌, Bool, true, false, cond, ◌&&◌, ◌||◌, ◌==◌, [], ◌∷◌, Some, None, option_map, refl, sym, ◌∙◌, ap, arith, inl, inr}
use Rattle.std.proofs.lemmas.Bool.{cases_Bool}
use Rattle.std.proofs.lemmas.Bool.Decides.{nat_tests}
use Rattle.rv_isa.specs.declared.instruction.Inst.{Inst}
use Rattle.rv_isa.specs.declared.instruction.Inst.TheVariants as inst
use Rattle.rv_isa.specs.declared.instruction.Fence.{Fence as FenceOperands}
use Rattle.rv_isa.specs.declared.instruction.Format.{Format}
use Rattle.rv_isa.specs.declared.instruction.Format.TheVariants.{Registers, Immediate, Shift, Upper, Load, Store, Branch, Jal, Jalr, LoadReserved, Atomic, Fence, Ecall, Ebreak}
use Rattle.rv_isa.specs.declared.kind.Kind.TheVariants as kind
use Rattle.rv_isa.specs.declared.operation.BranchOperation.{BranchOperation}
use Rattle.rv_isa.specs.declared.operation.BranchOperation.TheVariants.{Beq, Bne, Blt, Bge, Bltu, Bgeu}
use Rattle.rv_isa.specs.declared.operation.ShiftOperation.{ShiftOperation}
use Rattle.rv_isa.specs.declared.operation.ShiftOperation.TheVariants.{Slli, Srli, Srai, Slliw, Srliw, Sraiw}
use Rattle.rv_isa.specs.Operations.{instruction_of, format_of, of_branch, access_bits, fence}
use Rattle.rv_isa.specs.Ranges.{IsValidFormat, shift_limit}
use Rattle.rv_isa.proofs.OperationsLemmas.{rebuilt}
use Rattle.rv_parcel.specs.declared.form.Compressed.{Compressed}
use Rattle.rv_parcel.specs.declared.form.Compressed.TheVariants as forms
use Rattle.rv_parcel.specs.Parcel.{IsLine, IsNoHint, expansion}
use Rattle.rv_reloc_laws.specs.Operands.{with_value}
use Rattle.rv_pseudo_laws.specs.Code.{Part, Closed, Open, Constants, jal}
use Rattle.rv_pseudo_laws.specs.Filled.{FieldValue, filled_part}
use Rattle.rv_source_laws.specs.Lines.{parts_by_size, form_in}
use Rattle.rv_listing_laws.specs.Instruction.{is_tso, is_between}
use Rattle.rv_listing_laws.specs.declared.code.Code.{Code}
use Rattle.rv_listing_laws.specs.declared.code.Code.TheVariants.{Word, Parcel}
use Rattle.rv_listing_laws.specs.Raw.{IsSourced, has_source}
use Rattle.rv_raw_theorems.specs.Statements.{IsSmall, access_set, fence_statement, word_statement, parcel_statement, code_statement}
use Rattle.rv_raw_theorems.specs.Meaning.{KnowsNumbers, Leads, code_width, instruction_at, word_part, parcel_part, part_of, named_by}
use Rattle.rv_raw_theorems.proofs.WordsLemmas.{small_12}
use Rattle.rv_raw_theorems.proofs.ParcelsLemmas.{short_in}
use Rattle.rv_raw_theorems.proofs.FormsLemmas.{named}

-- ---- words

-- a jump of four bytes
long_jump : (t : Bool) (rd : ℕ) → Open (cond (t && false) kind.RvcJump kind.Jal) (jal rd) ≡ Open kind.Jal (jal rd)
long_jump true rd = refl
long_jump false rd = refl

shift_small : (operation : ShiftOperation) (n : ℕ) → n < shift_limit operation → IsSmall (pos n)
shift_small Slli n lt = omega (arith, lt)
shift_small Srli n lt = omega (arith, lt)
shift_small Srai n lt = omega (arith, lt)
shift_small Slliw n lt = omega (arith, lt)
shift_small Srliw n lt = omega (arith, lt)
shift_small Sraiw n lt = omega (arith, lt)

tso_is : (fm before after rs1 rd : ℕ) → fm ≡ 8 → before ≡ 3 → after ≡ 3 → rs1 ≡ 0 → rd ≡ 0 → fence 8 3 3 ≡ inst.Fence (record { fm = fm; pred = before; succ = after; rs1 = rs1; rd = rd })
tso_is fm before after rs1 rd a b c d e = rw (a, b, c, d, e) refl

between_is : (fm before after rs1 rd : ℕ) → fm ≡ 0 → rs1 ≡ 0 → rd ≡ 0 → fence 0 before after ≡ inst.Fence (record { fm = fm; pred = before; succ = after; rs1 = rs1; rd = rd })
between_is fm before after rs1 rd a d e = rw (a, d, e) refl

set_bits : (s : ℕ) → s < 16 → access_bits (access_set s) ≡ s
set_bits s lt = grind (arith, nat_tests, lt)

fence_parts : (v : Constants) (x : FenceOperands) → x.pred < 16 → x.succ < 16 → is_tso x || is_between x ≡ true → parts_by_size v false 4 (fence_statement x) ≡ Some (Closed (inst.Fence x) ∷ [])
fence_parts v x p s sourced = elim (cases_Bool (is_tso x)) [
  | inl tso ↦ rw tso (
      let e : (x.fm ≡ 8) × (x.pred ≡ 3) × (x.succ ≡ 3) × (x.rs1 ≡ 0) × (x.rd ≡ 0) = grind (arith, nat_tests, tso) in
      ap (λ (i : Inst). Some (Closed i ∷ [])) (tso_is x.fm x.pred x.succ x.rs1 x.rd e.0 e.1 e.2 e.3 e.4)
      )
  | inr other ↦ (
      let is : is_between x ≡ true = ap (λ t. t || is_between x) (sym other) ∙ sourced in
      let e : (x.fm ≡ 0) × (x.rs1 ≡ 0) × (x.rd ≡ 0) = grind (arith, nat_tests, is) in
      rw (other, set_bits x.pred p, set_bits x.succ s) (ap (λ (i : Inst). Some (Closed i ∷ [])) (between_is x.fm x.pred x.succ x.rs1 x.rd e.0 e.1 e.2))
      )
]

module _ (v : Constants) (known : KnowsNumbers v) where
  word_parts : (f : Format) → IsValidFormat f → has_source f ≡ true → parts_by_size v false 4 (word_statement f) ≡ Some (word_part f ∷ [])
  word_parts (Registers op x) valid sourced = refl
  word_parts (Immediate op x) (b, c, d) sourced = rw (known x.immediate (small_12 x.immediate d)) refl
  word_parts (Shift op x) (b, c, d) sourced =
      let small = shift_small op x.amount d in
      let same : x.amount % 2 ^ 64 ≡ x.amount = omega (arith, small) in
      rw (known (pos x.amount) small, same) refl
  word_parts (Upper op x) (b, d) sourced =
      let small : IsSmall (pos x.immediate) = omega (arith, d) in
      let same : x.immediate % 2 ^ 64 ≡ x.immediate = omega (arith, d) in
      rw (known (pos x.immediate) small, same) refl
  word_parts (Load op x) (b, c, d) sourced = rw (known x.immediate (small_12 x.immediate d)) refl
  word_parts (Store op x) (b, c, d) sourced = rw (known x.immediate (small_12 x.immediate d)) refl
  word_parts (Branch op x) valid sourced = refl
  word_parts (Jal x) valid sourced = ap (λ (p : Part). Some (p ∷ [])) (long_jump (x.rd == 0) x.rd)
  word_parts (Jalr x) (b, c, d) sourced = rw (known x.immediate (small_12 x.immediate d)) refl
  word_parts (LoadReserved double x) valid sourced = refl
  word_parts (Atomic op double x) valid sourced = refl
  word_parts (Fence x) (a, p, s, _, _) sourced = fence_parts v x p s sourced
  word_parts Ecall valid sourced = refl
  word_parts Ebreak valid sourced = refl

  -- ---- parcels

  -- one that its statement names
  by_name : (c : Compressed) → form_in v (parcel_statement c) ≡ Some c → option_map (λ form. Closed (expansion form) ∷ []) (form_in v (parcel_statement c)) ≡ Some (Closed (expansion c) ∷ [])
  by_name c is = ap (option_map (λ form. Closed (expansion form) ∷ [])) is

  parcel_parts : (c : Compressed) → IsLine c → IsNoHint c → parts_by_size v false 2 (parcel_statement c) ≡ Some (parcel_part c ∷ [])
  parcel_parts (forms.J i) a h = refl
  parcel_parts (forms.Beqz rs1 i) (a, b) h = rw (short_in rs1 a) refl
  parcel_parts (forms.Bnez rs1 i) (a, b) h = rw (short_in rs1 a) refl
  parcel_parts c a h = by_name c (named v known c a h)

  -- ---- both

  pub parts_are : (code : Code) → IsSourced code → parts_by_size v false (code_width code) (code_statement code) ≡ Some (part_of code ∷ [])
  parts_are (Word i) sourced = word_parts (format_of i) sourced.0 sourced.1
  parts_are (Parcel c) sourced = parcel_parts c sourced.0 sourced.1

  -- a word has none
  fence_form : (x : FenceOperands) → form_in v (fence_statement x) ≡ None
  fence_form x = elim (cases_Bool (is_tso x)) [
    | inl tso ↦ rw tso refl
    | inr other ↦ rw other refl
  ]

  word_form : (f : Format) → form_in v (word_statement f) ≡ None
  word_form (Fence x) = fence_form x
  word_form _ = refl

  pub forms_are : (code : Code) → IsSourced code → form_in v (code_statement code) ≡ named_by code
  forms_are (Word i) sourced = word_form (format_of i)
  forms_are (Parcel c) sourced = named v known c sourced.0 sourced.1

-- ---- with the open field filled

branch_filled : (op : BranchOperation) (rs1 rs2 : ℕ) (old new : ℤ) → with_value new (of_branch op (record { offset = old; rs1 = rs1; rs2 = rs2 })) ≡ of_branch op (record { offset = new; rs1 = rs1; rs2 = rs2 })
branch_filled Beq rs1 rs2 old new = refl
branch_filled Bne rs1 rs2 old new = refl
branch_filled Blt rs1 rs2 old new = refl
branch_filled Bge rs1 rs2 old new = refl
branch_filled Bltu rs1 rs2 old new = refl
branch_filled Bgeu rs1 rs2 old new = refl

module _ (value : FieldValue) (address : ℕ) where
  word_filled : (f : Format) → Leads value address f → filled_part value address (word_part f) ≡ instruction_of f ∷ []
  word_filled (Branch op x) leads = rw (leads kind.Branch, branch_filled op x.rs1 x.rs2 (pos 0) x.offset) refl
  word_filled (Jal x) leads = rw (leads kind.Jal) refl
  word_filled (Registers op x) leads = refl
  word_filled _ leads = refl

  parcel_filled : (c : Compressed) → Leads value address (format_of (expansion c)) → filled_part value address (parcel_part c) ≡ expansion c ∷ []
  parcel_filled (forms.J i) leads = rw (leads kind.RvcJump) refl
  parcel_filled (forms.Beqz rs1 i) leads = rw (leads kind.RvcBranch) refl
  parcel_filled (forms.Bnez rs1 i) leads = rw (leads kind.RvcBranch) refl
  parcel_filled _ leads = refl

  pub filled_is : (code : Code) → Leads value address (format_of (instruction_at code)) → filled_part value address (part_of code) ≡ instruction_at code ∷ []
  filled_is (Word i) leads = word_filled (format_of i) leads ∙ ap (λ j. j ∷ []) (rebuilt i)
  filled_is (Parcel c) leads = parcel_filled c leads
