-- What the statement of each instruction of a raw listing is to the assembler: its operands are in range, and it is one part of code, which stays open only where it leads to `.` and a distance.

use Rattle.std.proofs.Common.{◌≡◌, ℕ, ℤ, pos, negsuc, ◌+◌, ◌*◌, ◌%◌, ◌^◌, ◌<◌, Bool, true, false, not, ◌&&◌, List, [], ◌∷◌, Option, Some, None, option_map, refl, sym, ◌∙◌, ap, arith, inl, inr}
use Rattle.rv_isa.specs.Kinds.{width_of}
use Rattle.std.specs.Prelude.{⊤, ◌≤ℤ◌, if◌then◌else◌, is_some, unsigned_abs}
use Rattle.std.proofs.lemmas.Bool.Decides.{nat_tests}
use Rattle.std.proofs.lemmas.Int.{ints}
use Rattle.rv_isa.specs.declared.instruction.Fence.{Fence as FenceOperands}
use Rattle.rv_isa.specs.declared.instruction.Format.{Format}
use Rattle.rv_isa.specs.declared.instruction.Format.TheVariants.{Registers, Immediate, Shift, Upper, Load, Store, Branch, Jal, Jalr, LoadReserved, Atomic, Fence, Ecall, Ebreak}
use Rattle.rv_isa.specs.declared.instruction.Inst.{Inst}
use Rattle.rv_isa.specs.declared.operation.BranchOperation.TheVariants.{Beq, Bne}
use Rattle.rv_isa.specs.declared.operation.ShiftOperation.{ShiftOperation}
use Rattle.rv_isa.specs.declared.operation.ShiftOperation.TheVariants.{Slli, Srli, Srai, Slliw, Srliw, Sraiw}
use Rattle.rv_isa.specs.declared.kind.Kind.{Kind}
use Rattle.rv_isa.specs.declared.kind.Kind.TheVariants as kinds
use Rattle.rv_isa.specs.Operations.{format_of, instruction_of, of_branch}
use Rattle.rv_isa.specs.Ranges.{IsSigned12, IsBranchOffset, IsJumpOffset, IsValidFormat, shift_limit}
use Rattle.rv_parcel.specs.declared.form.Compressed.{Compressed}
use Rattle.rv_parcel.specs.declared.form.Compressed.TheVariants as forms
use Rattle.rv_parcel.specs.declared.parcel.ParcelOperation.{ParcelOperation}
use Rattle.rv_parcel.specs.Mnemonics.{are_in, register_sets, takes_number, form_with as form_by, form_of, operation_of}
use Rattle.rv_parcel.specs.Parcel.{IsLine, IsNoHint, IsUpper, IsBranch, IsJump, expansion}
use Rattle.rv_reloc_laws.specs.Ranges.{Takes, IsOdd}
use Rattle.rv_expression_laws.specs.Codes.{immediate_range, faulty_if}
use Rattle.rv_statement_laws.specs.declared.mnemonic.Mnemonic.{Mnemonic}
use Rattle.rv_statement_laws.specs.declared.mnemonic.Mnemonic.TheVariants as words
use Rattle.rv_statement_laws.specs.Statement.{StatementKind, Instruction, Operand, Target, Accesses, Expression}
use Rattle.rv_pseudo_laws.specs.Li.{is_signed}
use Rattle.rv_pseudo_laws.specs.Code.{Part, Closed, Open, Joined, Constants, b_type, jal, by_form}
use Rattle.rv_pseudo_laws.specs.InstructionFaults.{Worth, Number, Address, number_faults, faults, else_unplaced, own_faults, range_faults}
use Rattle.rv_pseudo_laws.specs.Valid.{is_amount, is_upper_20, takes}
use Rattle.rv_source_laws.specs.Lines.{operand_of, parts_by_size, form_in}
use Rattle.rv_listing_laws.specs.declared.code.Code.{Code}
use Rattle.rv_listing_laws.specs.declared.code.Code.TheVariants.{Word, Parcel}
use Rattle.rv_listing_laws.specs.Instruction.{is_tso}
use Rattle.rv_listing_laws.specs.Raw.{has_source, IsSourced}
use Rattle.rv_raw_theorems.specs.Meaning.{KnowsNumbers, word_part, parcel_part, named_in_parcel}
use Rattle.rv_raw_theorems.specs.Statements.{IsSmall, constant_expression, from_dot, access_set, operands_of, word_statement, parcel_statement, code_statement}
use Rattle.rv_raw_theorems.proofs.FormsLemmas.{named}
use Rattle.rv_raw_theorems.proofs.MeaningLemmas.{parts_are, forms_are}
use Rattle.rv_raw_theorems.proofs.ParcelsLemmas.{six_small, branch_small, jump_small, step_small}
use Rattle.rv_raw_theorems.proofs.WordsLemmas.{small_12}
pub use Rattle.rv_raw_theorems.proofs.WordsLemmas.{branch_small as offset_small, jump_small as far_small}

-- ---- ranges

fits_12 : (z : ℤ) → IsSigned12 z → is_signed 12 z ≡ true
fits_12 (pos n) h = grind (arith, ints, nat_tests, h)
fits_12 (negsuc n) h = grind (arith, ints, nat_tests, h)

fits_20 : (n : ℕ) → n < 2 ^ 20 → is_upper_20 (pos n) ≡ true
fits_20 n h = grind (arith, ints, nat_tests, h)

fits_shift : (operation : ShiftOperation) (n : ℕ) → n < shift_limit operation → is_amount operation (pos n) ≡ true
fits_shift operation n h = grind (arith, ints, nat_tests, h)

shift_small : (operation : ShiftOperation) (n : ℕ) → n < shift_limit operation → n < 64
shift_small Slli n h = h
shift_small Srli n h = h
shift_small Srai n h = h
shift_small Slliw n h = omega (arith, h)
shift_small Srliw n h = omega (arith, h)
shift_small Sraiw n h = omega (arith, h)

-- the fields that lead somewhere
abbrev pub leads : Kind → Bool
leads kinds.Branch = true
leads kinds.Jal = true
leads kinds.RvcBranch = true
leads kinds.RvcJump = true
leads _ = false

not_odd : (z : ℤ) → unsigned_abs z % 2 ≡ 0 → IsOdd z → ⊥
not_odd z even odd = absurd (omega (arith, even, odd))

pub branch_taken : (z : ℤ) → IsBranchOffset z → Takes kinds.Branch z
branch_taken z h = record { range = (h.0, h.1); even = λ e odd. not_odd z h.2 odd }

pub jal_taken : (z : ℤ) → IsJumpOffset z → Takes kinds.Jal z
jal_taken z h = record { range = (h.0, h.1); even = λ e odd. not_odd z h.2 odd }

even_below : (high : ℕ) (z : ℤ) → z ≤ℤ pos (2 * high + 1) → unsigned_abs z % 2 ≡ 0 → z ≤ℤ pos (2 * high)
even_below high (pos n) h even = omega (arith, ints, h, even)
even_below high (negsuc n) h even = omega (arith, ints)

short_taken : (z : ℤ) → IsBranch z → Takes kinds.RvcBranch z
short_taken z h = record { range = (h.0, even_below 127 z h.1 h.2); even = λ e odd. not_odd z h.2 odd }

jump_taken : (z : ℤ) → IsJump z → Takes kinds.RvcJump z
jump_taken z h = record { range = (h.0, even_below 1023 z h.1 h.2); even = λ e odd. not_odd z h.2 odd }

-- ---- parts

-- a part that stays open leads by its operand to `.` and a distance that its field takes
pub record IsLed (o : Option Operand) (k : Kind) : Type 0 where
  pub away : ℤ
  pub operand : o ≡ Some (Target (from_dot away))
  pub small : IsSmall away
  pub takes : Takes k away
  pub leads_there : leads k ≡ true

abbrev pub IsCalm : Option Operand → Part → Type 0
IsCalm o (Closed i) = ⊤
IsCalm o (Open k i) = IsLed o k
IsCalm o (Joined k i j) = ⊥

-- one part alone
abbrev pub IsOne : Option Operand → Option (List Part) → Type 0
IsOne o ps = (p : Part) × (ps ≡ Some (p ∷ [])) × IsCalm o p

-- a word that leads somewhere
abbrev pub is_led : Format → Bool
is_led (Branch operation x) = true
is_led (Jal x) = true
is_led f = false

-- ---- the code of words and parcels, whatever bytes are asked for

abbrev fence_by : FenceOperands → Bool → StatementKind
fence_by x b = if b then Instruction words.FenceTso [] else Instruction words.Fence (Accesses (access_set x.pred) ∷ Accesses (access_set x.succ) ∷ [])

same_word : (c : Constants) (f : Format) → is_led f ≡ false → (bytes : ℕ) → parts_by_size c false bytes (word_statement f) ≡ parts_by_size c false 4 (word_statement f)
same_word c (Branch op x) e bytes = absurd (cc)
same_word c (Jal x) e bytes = absurd (cc)
same_word c (Fence x) e bytes = by (is_tso x)
  where
    by : (b : Bool) → parts_by_size c false bytes (fence_by x b) ≡ parts_by_size c false 4 (fence_by x b)
    by true = refl
    by false = refl
same_word c _ e bytes = refl

closed_part : (f : Format) → is_led f ≡ false → word_part f ≡ Closed (instruction_of f)
closed_part (Branch op x) e = absurd (cc)
closed_part (Jal x) e = absurd (cc)
closed_part _ e = refl

same_parcel : (c : Constants) (f : Compressed) (bytes : ℕ) → parts_by_size c false bytes (parcel_statement f) ≡ parts_by_size c false 2 (parcel_statement f)
same_parcel c (forms.J i) bytes = refl
same_parcel c (forms.Beqz rs1 i) bytes = refl
same_parcel c (forms.Bnez rs1 i) bytes = refl
same_parcel c _ bytes = refl

-- the statement of a parcel has a target
abbrev pub is_aimed : Compressed → Bool
is_aimed (forms.J i) = true
is_aimed (forms.Beqz rs1 i) = true
is_aimed (forms.Bnez rs1 i) = true
is_aimed f = false

closed_form : (f : Compressed) → is_aimed f ≡ false → (parcel_part f ≡ Closed (expansion f)) × (named_in_parcel f ≡ Some f)
closed_form (forms.J i) e = absurd (cc)
closed_form (forms.Beqz rs1 i) e = absurd (cc)
closed_form (forms.Bnez rs1 i) e = absurd (cc)
closed_form _ e = (refl, refl)

-- a word that leads nowhere is one closed part
abbrev pub ClosesUnled : Constants → Format → Type 0
ClosesUnled c f = is_led f ≡ false → (bytes : ℕ) → (i : Inst) × (parts_by_size c false bytes (word_statement f) ≡ Some (Closed i ∷ []))

alone_is : (o : Option (List Part)) (p q : Part) → o ≡ Some (p ∷ []) → p ≡ q → o ≡ Some (q ∷ [])
alone_is o p q e same = e ∙ ap (λ r. Some (r ∷ [])) same

module _ (c : Constants) (known : KnowsNumbers c) where
  pub closed_word : (i : Inst) → IsSourced (Word i) → ClosesUnled c (format_of i)
  closed_word i s n bytes = (
    instruction_of (format_of i),
    alone_is _ (word_part (format_of i)) (Closed (instruction_of (format_of i))) (same_word c (format_of i) n bytes ∙ parts_are c known (Word i) s) (closed_part (format_of i) n),
  )

  pub closed_parcel : (f : Compressed) → IsSourced (Parcel f) → is_aimed f ≡ false → (bytes : ℕ) → parts_by_size c false bytes (parcel_statement f) ≡ Some (Closed (expansion f) ∷ [])
  closed_parcel f s n bytes = alone_is _ (parcel_part f) (Closed (expansion f)) (same_parcel c f bytes ∙ parts_are c known (Parcel f) s) (closed_form f n).0

  pub named_parcel : (f : Compressed) → IsSourced (Parcel f) → is_aimed f ≡ false → form_in c (parcel_statement f) ≡ Some f
  named_parcel f s n = forms_are c known (Parcel f) s ∙ (closed_form f n).1

  -- one with a target
  pub record IsOpenParcel (f : Compressed) (bytes : ℕ) : Type 0 where
    pub kind : Kind
    pub instruction : Inst
    pub parts : parts_by_size c false bytes (parcel_statement f) ≡ Some (Open kind instruction ∷ [])
    pub width : width_of kind ≡ 2
    pub led_there : IsLed (operand_of (parcel_statement f)) kind

  pub open_parcel : (f : Compressed) → IsSourced (Parcel f) → is_aimed f ≡ true → (bytes : ℕ) → IsOpenParcel f bytes
  open_parcel (forms.J i) s a bytes = record {
    kind = kinds.RvcJump;
    instruction = jal 0;
    parts = refl;
    width = refl;
    led_there = record { away = i; operand = refl; small = jump_small i s.0; takes = jump_taken i s.0; leads_there = refl };
  }
  open_parcel (forms.Beqz rs1 i) ((r, k), h) a bytes = record {
    kind = kinds.RvcBranch;
    instruction = of_branch Beq (b_type rs1 0 (pos 0));
    parts = parts_are c known (Parcel (forms.Beqz rs1 i)) ((r, k), h);
    width = refl;
    led_there = record { away = i; operand = refl; small = branch_small i k; takes = short_taken i k; leads_there = refl };
  }
  open_parcel (forms.Bnez rs1 i) ((r, k), h) a bytes = record {
    kind = kinds.RvcBranch;
    instruction = of_branch Bne (b_type rs1 0 (pos 0));
    parts = parts_are c known (Parcel (forms.Bnez rs1 i)) ((r, k), h);
    width = refl;
    led_there = record { away = i; operand = refl; small = branch_small i k; takes = short_taken i k; leads_there = refl };
  }
  open_parcel f s a bytes = absurd (cc)

-- ---- the numbers of parcels

abbrev number_in : Compressed → ℤ
number_in (forms.Addi4spn rd u) = pos u
number_in (forms.Lw rd rs1 u) = pos u
number_in (forms.Ld rd rs1 u) = pos u
number_in (forms.Sw rs1 rs2 u) = pos u
number_in (forms.Sd rs1 rs2 u) = pos u
number_in (forms.Addi rd i) = i
number_in (forms.Addiw rd i) = i
number_in (forms.Li rd i) = i
number_in (forms.Addi16sp i) = i
number_in (forms.Lui rd u) = pos u
number_in (forms.Srli rd u) = pos u
number_in (forms.Srai rd u) = pos u
number_in (forms.Andi rd i) = i
number_in (forms.Slli rd u) = pos u
number_in (forms.Lwsp rd u) = pos u
number_in (forms.Ldsp rd u) = pos u
number_in (forms.Swsp rs2 u) = pos u
number_in (forms.Sdsp rs2 u) = pos u
number_in f = pos 0

-- numbers are small
upper_small : (u : ℕ) → IsUpper u → u < 2 ^ 21
upper_small u (inl (some, lt)) = omega (arith, lt)
upper_small u (inr (low, lt)) = omega (arith, lt)

number_small : (f : Compressed) → IsLine f → IsSmall (number_in f)
number_small (forms.Addi4spn rd u) (a, (lt, e), some) = omega (arith, lt)
number_small (forms.Lw rd rs1 u) (a, b, (lt, e)) = omega (arith, lt)
number_small (forms.Ld rd rs1 u) (a, b, (lt, e)) = omega (arith, lt)
number_small (forms.Sw rs1 rs2 u) (a, b, (lt, e)) = omega (arith, lt)
number_small (forms.Sd rs1 rs2 u) (a, b, (lt, e)) = omega (arith, lt)
number_small (forms.Nop i) l = omega arith
number_small (forms.Addi rd i) (a, six) = six_small i six
number_small (forms.Addiw rd i) (a, six) = six_small i six
number_small (forms.Li rd i) (a, six) = six_small i six
number_small (forms.Addi16sp i) step = step_small i step
number_small (forms.Lui rd u) (a, b, upper) = upper_small u upper
number_small (forms.Srli rd u) (a, lt) = omega (arith, lt)
number_small (forms.Srai rd u) (a, lt) = omega (arith, lt)
number_small (forms.Andi rd i) (a, six) = six_small i six
number_small (forms.Slli rd u) (a, lt) = omega (arith, lt)
number_small (forms.Lwsp rd u) (a, (lt, e)) = omega (arith, lt)
number_small (forms.Ldsp rd u) (a, (lt, e)) = omega (arith, lt)
number_small (forms.Swsp rs2 u) (a, (lt, e)) = omega (arith, lt)
number_small (forms.Sdsp rs2 u) (a, (lt, e)) = omega (arith, lt)
number_small f l = omega arith

-- a number with which a mnemonic is a form
taken_by : (operation : ParcelOperation) (rs : List ℕ) (k : ℤ) (f : Compressed) → form_of operation rs k ≡ Some f → takes_number operation k ≡ true
taken_by operation rs k f e = by (are_in (register_sets operation) rs) (takes_number operation k) refl e
  where
    by : (a b : Bool) → takes_number operation k ≡ b → (if a && b then option_map (λ make. make k) (form_by operation rs) else None) ≡ Some f → takes_number operation k ≡ true
    by true true t e = t
    by true false t e = absurd (cc)
    by false b t e = absurd (cc)

module _ (c : Constants) (w : Expression → Worth) (known : KnowsNumbers c) (told : (z : ℤ) → IsSmall z → w (constant_expression z) ≡ Number z)
    (led : (z : ℤ) → IsSmall z → (b : Bool) × (w (from_dot z) ≡ Address b)) where
  -- ---- faults of words

  in_range : (m : Mnemonic) (k : ℤ) → takes m k ≡ true → range_faults m k ≡ []
  in_range m k e = ap (λ b. faulty_if (not b) immediate_range) e

  -- the fault of the one operand that is an expression
  by_number : (m : Mnemonic) (z : ℤ) → IsSmall z → takes m z ≡ true → number_faults m (w (constant_expression z)) ≡ []
  by_number m z small e = ap (number_faults m) (told z small) ∙ in_range m z e

  pub word_faults : (f : Format) → IsValidFormat f → has_source f ≡ true → faults c w (word_statement f) ≡ []
  word_faults (Registers op x) v s = refl
  word_faults (Immediate op x) (a, b, k) s = rw (known x.immediate (small_12 x.immediate k), by_number (words.Immediate op) x.immediate (small_12 x.immediate k) (fits_12 x.immediate k)) refl
  word_faults (Shift op x) (a, b, k) s =
      let small : IsSmall (pos x.amount) = (let lt = shift_small op x.amount k in omega (arith, lt)) in
      rw (known (pos x.amount) small, by_number (words.Shift op) (pos x.amount) small (fits_shift op x.amount k)) refl
  word_faults (Upper op x) (a, k) s =
      let small : IsSmall (pos x.immediate) = omega (arith, k) in
      rw (known (pos x.immediate) small, by_number (words.Upper op) (pos x.immediate) small (fits_20 x.immediate k)) refl
  word_faults (Load op x) (a, b, k) s = rw (known x.immediate (small_12 x.immediate k), by_number (words.Load op) x.immediate (small_12 x.immediate k) (fits_12 x.immediate k)) refl
  word_faults (Store op x) (a, b, k) s = rw (known x.immediate (small_12 x.immediate k), by_number (words.Store op) x.immediate (small_12 x.immediate k) (fits_12 x.immediate k)) refl
  word_faults (Branch op x) (a, b, k) s = rw ((led x.offset (offset_small x.offset k)).1) refl
  word_faults (Jal x) (a, k) s = rw ((led x.offset (far_small x.offset k)).1) refl
  word_faults (Jalr x) (a, b, k) s = rw (known x.immediate (small_12 x.immediate k), by_number words.Jalr x.immediate (small_12 x.immediate k) (fits_12 x.immediate k)) refl
  word_faults (LoadReserved double x) v s = refl
  word_faults (Atomic op double x) v s = refl
  word_faults (Fence x) v s = by (is_tso x)
    where
      by : (b : Bool) → faults c w (if b then Instruction words.FenceTso [] else Instruction words.Fence (Accesses (access_set x.pred) ∷ Accesses (access_set x.succ) ∷ [])) ≡ []
      by true = refl
      by false = refl
  word_faults Ecall v s = refl
  word_faults Ebreak v s = refl

  -- ---- faults of parcels

  -- the number of a form, with the registers of its mnemonic
  taken : (f : Compressed) (rs : List ℕ) → IsLine f → by_form (form_of (operation_of f) rs) (c (constant_expression (number_in f))) ≡ Some f → number_faults (words.Parcel (operation_of f)) (w (constant_expression (number_in f))) ≡ []
  taken f rs l e =
      let small = number_small f l in
      let form : form_of (operation_of f) rs (number_in f) ≡ Some f = sym (ap (by_form (form_of (operation_of f) rs)) (known (number_in f) small)) ∙ e in
      by_number (words.Parcel (operation_of f)) (number_in f) small (taken_by (operation_of f) rs (number_in f) f form)

  own : (f : Compressed) → IsLine f → IsNoHint f → own_faults w (words.Parcel (operation_of f)) (operands_of f) ≡ []
  own (forms.Addi4spn rd u) l h = rw (taken (forms.Addi4spn rd u) (rd ∷ 2 ∷ []) l (named c known (forms.Addi4spn rd u) l h)) refl
  own (forms.Lw rd rs1 u) l h = rw (taken (forms.Lw rd rs1 u) (rd ∷ rs1 ∷ []) l (named c known (forms.Lw rd rs1 u) l h)) refl
  own (forms.Ld rd rs1 u) l h = rw (taken (forms.Ld rd rs1 u) (rd ∷ rs1 ∷ []) l (named c known (forms.Ld rd rs1 u) l h)) refl
  own (forms.Sw rs1 rs2 u) l h = rw (taken (forms.Sw rs1 rs2 u) (rs2 ∷ rs1 ∷ []) l (named c known (forms.Sw rs1 rs2 u) l h)) refl
  own (forms.Sd rs1 rs2 u) l h = rw (taken (forms.Sd rs1 rs2 u) (rs2 ∷ rs1 ∷ []) l (named c known (forms.Sd rs1 rs2 u) l h)) refl
  own (forms.Addi rd i) l h = rw (taken (forms.Addi rd i) (rd ∷ []) l (named c known (forms.Addi rd i) l h)) refl
  own (forms.Addiw rd i) l h = rw (taken (forms.Addiw rd i) (rd ∷ []) l (named c known (forms.Addiw rd i) l h)) refl
  own (forms.Li rd i) l h = rw (taken (forms.Li rd i) (rd ∷ []) l (named c known (forms.Li rd i) l h)) refl
  own (forms.Addi16sp i) l h = rw (taken (forms.Addi16sp i) (2 ∷ []) l (named c known (forms.Addi16sp i) l h)) refl
  own (forms.Lui rd u) l h = rw (taken (forms.Lui rd u) (rd ∷ []) l (named c known (forms.Lui rd u) l h)) refl
  own (forms.Srli rd u) l h = rw (taken (forms.Srli rd u) (rd ∷ []) l (named c known (forms.Srli rd u) l h)) refl
  own (forms.Srai rd u) l h = rw (taken (forms.Srai rd u) (rd ∷ []) l (named c known (forms.Srai rd u) l h)) refl
  own (forms.Andi rd i) l h = rw (taken (forms.Andi rd i) (rd ∷ []) l (named c known (forms.Andi rd i) l h)) refl
  own (forms.Slli rd u) l h = rw (taken (forms.Slli rd u) (rd ∷ []) l (named c known (forms.Slli rd u) l h)) refl
  own (forms.Lwsp rd u) l h = rw (taken (forms.Lwsp rd u) (rd ∷ 2 ∷ []) l (named c known (forms.Lwsp rd u) l h)) refl
  own (forms.Ldsp rd u) l h = rw (taken (forms.Ldsp rd u) (rd ∷ 2 ∷ []) l (named c known (forms.Ldsp rd u) l h)) refl
  own (forms.Swsp rs2 u) l h = rw (taken (forms.Swsp rs2 u) (rs2 ∷ 2 ∷ []) l (named c known (forms.Swsp rs2 u) l h)) refl
  own (forms.Sdsp rs2 u) l h = rw (taken (forms.Sdsp rs2 u) (rs2 ∷ 2 ∷ []) l (named c known (forms.Sdsp rs2 u) l h)) refl
  own (forms.J i) l h = rw ((led i (jump_small i l)).1) refl
  own (forms.Beqz rs1 i) (s, l) h = rw ((led i (branch_small i l)).1) refl
  own (forms.Bnez rs1 i) (s, l) h = rw ((led i (branch_small i l)).1) refl
  own _ l h = refl

  pub parcel_faults : (f : Compressed) → IsSourced (Parcel f) → faults c w (parcel_statement f) ≡ []
  parcel_faults f s =
      ap (λ p. else_unplaced (is_some p) (own_faults w (words.Parcel (operation_of f)) (operands_of f))) (same_parcel c f 4 ∙ parts_are c known (Parcel f) s) ∙ ap (else_unplaced true) (own f s.0 s.1)

  -- ---- both

  pub code_faults : (code : Code) → IsSourced code → faults c w (code_statement code) ≡ []
  code_faults (Word i) (v, s) = word_faults (format_of i) v s
  code_faults (Parcel f) s = parcel_faults f s
