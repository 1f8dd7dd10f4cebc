-- The statements that spell one instruction: their code with its fields filled is that instruction with its hole filled.

use Rattle.std.proofs.Common.{◌≡◌, ℕ, ◌%◌, ◌^◌, ◌<◌, Bool, true, false, ◌&&◌, List, [], ◌∷◌, Option, Some, None, refl, sym, ap, ◌∙◌, subst, arith, ℤ, pos}
use Rattle.std.specs.Prelude.{◌==◌, if◌then◌else◌, option_map}
use Rattle.std.specs.List.{AllByRecursion}
use Rattle.rv_isa.specs.Kinds.{is_low_part}
use Rattle.rv_isa.specs.declared.instruction.Inst.{Inst}
use Rattle.rv_isa.specs.declared.instruction.Inst.TheVariants as inst
use Rattle.rv_isa.specs.declared.instruction.IType.{IType}
use Rattle.rv_isa.specs.declared.instruction.SType.{SType}
use Rattle.rv_isa.specs.declared.instruction.UType.{UType}
use Rattle.rv_isa.specs.declared.kind.Kind.{Kind}
use Rattle.rv_isa.specs.declared.kind.Kind.TheVariants as kind
use Rattle.rv_isa.specs.declared.operation.ImmediateOperation.{ImmediateOperation}
use Rattle.rv_isa.specs.declared.operation.ImmediateOperation.TheVariants.{Addi, Slti, Sltiu, Xori, Ori, Andi, Addiw}
use Rattle.rv_isa.specs.declared.operation.UpperOperation.{UpperOperation}
use Rattle.rv_isa.specs.declared.operation.UpperOperation.TheVariants.{Lui, Auipc}
use Rattle.rv_isa.specs.declared.operation.LoadOperation.{LoadOperation}
use Rattle.rv_isa.specs.declared.operation.LoadOperation.TheVariants.{Lb, Lh, Lw, Ld, Lbu, Lhu, Lwu}
use Rattle.rv_isa.specs.declared.operation.StoreOperation.{StoreOperation}
use Rattle.rv_isa.specs.declared.operation.StoreOperation.TheVariants.{Sb, Sh, Sw, Sd}
use Rattle.rv_isa.specs.declared.operation.BranchOperation.{BranchOperation}
use Rattle.rv_isa.specs.declared.operation.BranchOperation.TheVariants.{Beq, Bne}
use Rattle.rv_isa.specs.Operations.{of_immediate, of_shift, of_upper, of_load, of_store, of_branch}
use Rattle.rv_isa.specs.Ranges.{IsValid}
use Rattle.rv_isa_laws.specs.Arithmetic.{wrapped, signed}
use Rattle.rv_isa_laws.specs.Halves.{hi, lo}
use Rattle.rv_reloc_laws.specs.Operands.{with_value, immediate_of, store_of, upper_of}
use Rattle.rv_parcel.specs.declared.form.Compressed.{Compressed}
use Rattle.rv_parcel.specs.declared.parcel.ParcelOperation.{ParcelOperation}
use Rattle.rv_parcel.specs.declared.parcel.ParcelOperation.TheVariants as parcels
use Rattle.rv_parcel.specs.declared.parcel.RegisterSet.TheVariants.{Short}
use Rattle.rv_parcel.specs.declared.parcel.OperandShape.{OperandShape}
use Rattle.rv_parcel.specs.declared.parcel.OperandShape.TheVariants as shapes
use Rattle.rv_parcel.specs.Mnemonics.{is_of_set, are_in, register_sets, shape_of, takes_number, form_with, form_of}
use Rattle.rv_parcel.specs.Parcel.{expansion}
use Rattle.rv_statement_laws.specs.declared.mnemonic.Mnemonic.{Mnemonic}
use Rattle.rv_statement_laws.specs.declared.mnemonic.Mnemonic.TheVariants.{Registers, Immediate, Shift, Upper, Load, Store, Branch, Jal, Jalr, LoadReserved, Atomic, Fence, FenceTso, Ecall, Ebreak, Nop, Unary, Compare, ZeroBranch, SwappedBranch, J, Jr, Ret, La, Li, Call, Tail, Jump, Parcel}
use Rattle.rv_statement_laws.specs.declared.pseudo.Function.TheVariants.{Hi, Lo, PcrelHi, PcrelLo}
use Rattle.rv_statement_laws.specs.Statement.{Operand, Register, Value, Applied, Target, Accesses, Word, Quoted, Expression}
use Rattle.rv_parse_laws.specs.Syntax.{with_constant}
use Rattle.rv_pseudo_laws.specs.Code.{Part, Closed, Open, Constants, opened, by_number, by_part, signed_12, upper_20, constant_number, by_amount, by_constant, by_form, parcel_form, branch, i_type, s_type, b_type, u_type, shift_by, jal, jalr, code}
use Rattle.rv_pseudo_laws.specs.Filled.{FieldValue, filled}
use Rattle.rv_source_laws.specs.Lines.{other_operand, operand_number, distance, operand_gives}
use Rattle.rv_source_laws.specs.Holes.{constant_hole, form_hole, parcel_hole}
use Rattle.rv_source_laws.specs.Meaning.{one_instruction}
use Rattle.rv_runs_theorems.proofs.NumbersLemmas.{modulo_20}
use Rattle.rv_runs_theorems.proofs.RowsLemmas.{branch_with}

-- ---- what an open field makes of an instruction

immediate_with : (operation : ImmediateOperation) (x : IType) (w : ℤ) → with_value w (of_immediate operation x) ≡ of_immediate operation (immediate_of x w)
immediate_with Addi x w = refl
immediate_with Slti x w = refl
immediate_with Sltiu x w = refl
immediate_with Xori x w = refl
immediate_with Ori x w = refl
immediate_with Andi x w = refl
immediate_with Addiw x w = refl

upper_with : (operation : UpperOperation) (x : UType) (w : ℤ) → with_value w (of_upper operation x) ≡ of_upper operation (upper_of x w)
upper_with Lui x w = refl
upper_with Auipc x w = refl

load_with : (operation : LoadOperation) (x : IType) (w : ℤ) → with_value w (of_load operation x) ≡ of_load operation (immediate_of x w)
load_with Lb x w = refl
load_with Lh x w = refl
load_with Lw x w = refl
load_with Ld x w = refl
load_with Lbu x w = refl
load_with Lhu x w = refl
load_with Lwu x w = refl

store_with : (operation : StoreOperation) (x : SType) (w : ℤ) → with_value w (of_store operation x) ≡ of_store operation (store_of x w)
store_with Sb x w = refl
store_with Sh x w = refl
store_with Sw x w = refl
store_with Sd x w = refl

-- an upper part of twenty bits, whatever it held
upper_open : (operation : UpperOperation) (rd old : ℕ) (w n : ℤ) → hi w ≡ n → with_value w (of_upper operation (u_type rd old)) ≡ of_upper operation (u_type rd (wrapped n % 2 ^ 20))
upper_open operation rd old w n same =
    upper_with operation (u_type rd old) w
    ∙ ap (λ u. of_upper operation (u_type rd u)) (modulo_20 (hi w) ∙ ap (λ x. wrapped x % 2 ^ 20) same)

upper_small : (operation : UpperOperation) (rd n : ℕ) → IsValid (of_upper operation (u_type rd n)) → n < 2 ^ 20
upper_small Lui rd n valid = valid.1
upper_small Auipc rd n valid = valid.1

small_mod : (a : ℕ) → a < 2 ^ 20 → a % 2 ^ 20 ≡ a
small_mod a below = omega arith

-- ---- operands

-- a statement's operand that is no register
abbrev Other : Option Operand → Operand → Type 0
Other q (Register r) = Unit {0}
Other q (Value e) = q ≡ Some (Value e)
Other q (Applied function e) = q ≡ Some (Applied function e)
Other q (Target e) = q ≡ Some (Target e)
Other q (Accesses set) = q ≡ Some (Accesses set)
Other q (Word name) = q ≡ Some (Word name)
Other q (Quoted bytes) = q ≡ Some (Quoted bytes)

first_other : (o : Operand) (os : List Operand) → Other (other_operand (o ∷ os)) o
first_other (Register r) os = tt
first_other (Value e) os = refl
first_other (Applied function e) os = refl
first_other (Target e) os = refl
first_other (Accesses set) os = refl
first_other (Word name) os = refl
first_other (Quoted bytes) os = refl

-- what an operand stands for at an address, by the numbers of expressions and the distances of pairs
abbrev pub stands_for : (Expression → ℕ) → (Expression → ℤ) → Option Operand → ℕ → ℤ
stands_for v pair (Some (Applied PcrelLo e)) a = pair e
stands_for v pair (Some (Applied Hi e)) a = signed 64 (v e)
stands_for v pair (Some (Applied Lo e)) a = signed 64 (v e)
stands_for v pair operand a = distance a (operand_number v operand)

-- the fields of a statement's code take that
abbrev pub TakesOperand : (Expression → ℕ) → (Expression → ℤ) → FieldValue → ℕ → Option Operand → Type 0
TakesOperand v pair f address q = (k : Kind) (a : ℕ) → f k a ≡ stands_for v pair q (if is_low_part k then address else a)

-- ---- the code of one instruction, where there is some

abbrev pub IsSaid : FieldValue → ℕ → Option Inst → Option (List Part) → Type 0
IsSaid f address said None = Unit {0}
IsSaid f address said (Some ps) = AllByRecursion IsValid (filled f address ps) → option_map (λ i. i ∷ []) said ≡ Some (filled f address ps)

pub said_of : (f : FieldValue) (address : ℕ) (said : Option Inst) (o : Option (List Part)) (ps : List Part) → o ≡ Some ps → IsSaid f address said o
    → AllByRecursion IsValid (filled f address ps) → option_map (λ i. i ∷ []) said ≡ Some (filled f address ps)
said_of f address said None ps e s valid = absurd (cc)
said_of f address said (Some qs) ps e s valid =
    let same : qs ≡ ps = cc in
    subst (λ x. IsSaid f address said (Some x)) same s valid

-- the statements that do what their one instruction does
abbrev pub IsPlain : Mnemonic → List Operand → Type 0
IsPlain (Load operation) (Register rd ∷ Target e ∷ []) = ⊥
IsPlain (Store operation) (Register rs2 ∷ Target e ∷ Register rt ∷ []) = ⊥
IsPlain (Branch operation) operands = ⊥
IsPlain (ZeroBranch operation) operands = ⊥
IsPlain (SwappedBranch operation) operands = ⊥
IsPlain (Unary operation) operands = ⊥
IsPlain (Compare operation) operands = ⊥
IsPlain La operands = ⊥
IsPlain Li operands = ⊥
IsPlain Call operands = ⊥
IsPlain Tail operands = ⊥
IsPlain Jump operands = ⊥
IsPlain mnemonic operands = Unit {0}

module _ (v : Expression → ℕ) (pair : Expression → ℤ) (c : Constants) (f : FieldValue) (address : ℕ) (known : (e : Expression) (k : ℤ) → c e ≡ Some k → k ≡ signed 64 (v e)) where
  abbrev Given : Option Operand → ℤ
  Given q = operand_gives v pair address q

  abbrev Said : Inst → Option (List Part) → Type 0
  Said i o = IsSaid f address (Some i) o

  abbrev Takes : Option Operand → Type 0
  Takes q = TakesOperand v pair f address q

  -- ---- by a number, known or open

  said_number : (make : ℤ → Inst) (n : ℤ) (o : Option ℤ) → ((k : ℤ) → o ≡ Some k → k ≡ n) → Said (make n) (by_number make o)
  said_number make n None same = tt
  said_number make n (Some k) same = λ valid. ap (λ x. Some (make x ∷ [])) (sym (same k refl))

  said_open : (k : Kind) (i j : Inst) → with_value (f k address) i ≡ j → Said j (opened k i)
  said_open k i j same = λ valid. ap (λ x. Some (x ∷ [])) (sym same)

  said_part : (k : Kind) (make : ℤ → Inst) (n : ℤ) (o : Option ℤ) → ((m : ℤ) → o ≡ Some m → m ≡ n) → with_value (f k address) (make (pos 0)) ≡ make n → Said (make n) (by_part k make o)
  said_part k make n None same filling = said_open k (make (pos 0)) (make n) filling
  said_part k make n (Some m) same filling = λ valid. ap (λ x. Some (make x ∷ [])) (sym (same m refl))

  half_known : (half : ℤ → ℤ) (e : Expression) (o : Option ℤ) → c e ≡ o → (m : ℤ) → option_map half o ≡ Some m → m ≡ half (signed 64 (v e))
  half_known half e None is m s = absurd (cc)
  half_known half e (Some n) is m s = let part : half n ≡ m = cc in sym part ∙ ap half (known e n is)

  -- ---- by an operand

  said_signed : (store : Bool) (make : ℤ → Inst) (q : Option Operand) (o : Operand) → Other q o → Takes q → ((w : ℤ) → with_value w (make (pos 0)) ≡ make (lo w))
      → Said (make (Given q)) (signed_12 c store make o)
  said_signed store make q (Value e) other takes lower = said_number make (Given q) (c e) (λ k s. known e k s ∙ sym (ap Given other))
  said_signed store make q (Applied Lo e) other takes lower =
      let k = if store then kind.Lo12S else kind.Lo12I in
      said_part k make (Given q) (option_map lo (c e)) (λ m s. half_known lo e (c e) refl m s ∙ sym (ap Given other))
      (lower (f k address)
      ∙ ap (λ w. make (lo w)) (takes k address ∙ ap (λ x. stands_for v pair x (if is_low_part k then address else address)) other)
      ∙ ap make (sym (ap Given other)))
  said_signed store make q (Applied PcrelLo e) other takes lower =
      let k = if store then kind.PcrelLo12S else kind.PcrelLo12I in
      said_open k (make (pos 0)) (make (Given q))
      (lower (f k address)
      ∙ ap (λ w. make (lo w)) (takes k address ∙ ap (λ x. stands_for v pair x (if is_low_part k then address else address)) other)
      ∙ ap make (sym (ap Given other)))
  said_signed store make q o other takes lower = tt

  amount_is : (q : Option Operand) (o : Operand) → Other q o → (k : ℤ) → constant_number c o ≡ Some k → k ≡ Given q
  amount_is q (Value e) other k s = known e k s ∙ sym (ap Given other)
  amount_is q (Applied Lo e) other k s = half_known lo e (c e) refl k s ∙ sym (ap Given other)
  amount_is q o other k s = absurd (cc)

  said_amount : (make : ℕ → Inst) (q : Option Operand) (o : Operand) → Other q o → Said (make (wrapped (Given q))) (by_amount c make o)
  said_amount make q o other = said_number (λ k. make (wrapped k)) (Given q) (constant_number c o) (amount_is q o other)

  -- an upper part that is known is below 2 ^ 20
  upper_known : (operation : UpperOperation) (rd : ℕ) (n k : ℤ) → k ≡ n → AllByRecursion IsValid (of_upper operation (u_type rd (wrapped k)) ∷ [])
      → Some (of_upper operation (u_type rd (wrapped n % 2 ^ 20)) ∷ []) ≡ Some (of_upper operation (u_type rd (wrapped k)) ∷ [])
  upper_known operation rd n k same valid =
      ap (λ u. Some (of_upper operation (u_type rd u) ∷ []))
      (ap (λ x. wrapped x % 2 ^ 20) (sym same) ∙ small_mod (wrapped k) (upper_small operation rd (wrapped k) valid.0))

  upper_number : (operation : UpperOperation) (rd : ℕ) (n : ℤ) (o : Option ℤ) → ((k : ℤ) → o ≡ Some k → k ≡ n)
      → Said (of_upper operation (u_type rd (wrapped n % 2 ^ 20))) (by_number (λ k. of_upper operation (u_type rd (wrapped k))) o)
  upper_number operation rd n None same = tt
  upper_number operation rd n (Some k) same = λ valid. upper_known operation rd n k (same k refl) valid

  upper_part : (operation : UpperOperation) (rd : ℕ) (k : Kind) (n : ℤ) (o : Option ℤ) → ((m : ℤ) → o ≡ Some m → m ≡ n) → hi (f k address) ≡ n
      → Said (of_upper operation (u_type rd (wrapped n % 2 ^ 20))) (by_part k (λ m. of_upper operation (u_type rd (wrapped m))) o)
  upper_part operation rd k n None same filling =
      said_open k (of_upper operation (u_type rd (wrapped (pos 0)))) (of_upper operation (u_type rd (wrapped n % 2 ^ 20))) (upper_open operation rd (wrapped (pos 0)) (f k address) n filling)
  upper_part operation rd k n (Some m) same filling = λ valid. upper_known operation rd n m (same m refl) valid

  said_upper : (operation : UpperOperation) (rd : ℕ) (q : Option Operand) (o : Operand) → Other q o → Takes q
      → Said (of_upper operation (u_type rd (wrapped (Given q) % 2 ^ 20))) (upper_20 c (λ n. of_upper operation (u_type rd n)) o)
  said_upper operation rd q (Value e) other takes = upper_number operation rd (Given q) (c e) (λ k s. known e k s ∙ sym (ap Given other))
  said_upper operation rd q (Applied Hi e) other takes =
      upper_part operation rd kind.Hi20 (Given q) (option_map hi (c e)) (λ m s. half_known hi e (c e) refl m s ∙ sym (ap Given other))
      (ap hi (takes kind.Hi20 address ∙ ap (λ x. stands_for v pair x address) other) ∙ sym (ap Given other))
  said_upper operation rd q (Applied PcrelHi e) other takes =
      said_open kind.PcrelHi20 (of_upper operation (u_type rd 0)) (of_upper operation (u_type rd (wrapped (Given q) % 2 ^ 20)))
      (upper_open operation rd 0 (f kind.PcrelHi20 address) (Given q) (ap hi (takes kind.PcrelHi20 address ∙ ap (λ x. stands_for v pair x address) other) ∙ sym (ap Given other)))
  said_upper operation rd q o other takes = tt

  said_jump : (t : Bool) (rd : ℕ) (e : Expression) → Takes (Some (Target e))
      → Said (inst.Jal (record { offset = distance address (v e); rd = rd })) (Some (Open (if t then kind.RvcJump else kind.Jal) (jal rd) ∷ []))
  said_jump true rd e takes = said_open kind.RvcJump (jal rd) _ (ap (λ w. inst.Jal (record { offset = w; rd = rd })) (takes kind.RvcJump address))
  said_jump false rd e takes = said_open kind.Jal (jal rd) _ (ap (λ w. inst.Jal (record { offset = w; rd = rd })) (takes kind.Jal address))

  said_constant : (m : Option Mnemonic) (rd rs1 : ℕ) (q : Option Operand) (o : Operand) → Other q o → Takes q
      → IsSaid f address (option_map (λ make. make (Given q)) (constant_hole m rd rs1)) (by_constant c m rd rs1 o)
  said_constant (Some (Immediate operation)) rd rs1 q o other takes =
      said_signed false (λ k. of_immediate operation (i_type rd rs1 k)) q o other takes (immediate_with operation (i_type rd rs1 (pos 0)))
  said_constant (Some (Shift operation)) rd rs1 q o other takes = said_amount (λ n. of_shift operation (shift_by rd rs1 n)) q o other
  said_constant m rd rs1 q o other takes = tt

  -- ---- parcels

  -- the parts of a form that is named, if there is one
  abbrev parts_of_form : Option Compressed → Option (List Part)
  parts_of_form o = option_map (λ form. Closed (expansion form) ∷ []) o

  abbrev SaidForm : Option (ℤ → Inst) → ℤ → Option Compressed → Type 0
  SaidForm hole n o = IsSaid f address (option_map (λ make. make n) hole) (parts_of_form o)

  said_taken : (t : Bool) (o : Option (ℤ → Compressed)) (k n : ℤ) → k ≡ n
      → SaidForm (option_map (λ make. λ k. expansion (make k)) o) n (if t then option_map (λ make. make k) o else None)
  said_taken true None k n same = tt
  said_taken true (Some make) k n same = λ valid. ap (λ x. Some (expansion (make x) ∷ [])) (sym same)
  said_taken false o k n same = tt

  said_form : (operation : ParcelOperation) (rs : List ℕ) (k n : ℤ) → k ≡ n → SaidForm (form_hole operation rs) n (form_of operation rs k)
  said_form operation rs k n same = said_taken (are_in (register_sets operation) rs && takes_number operation k) (form_with operation rs) k n same

  said_by_form : (operation : ParcelOperation) (rs : List ℕ) (n : ℤ) (o : Option ℤ) → ((k : ℤ) → o ≡ Some k → k ≡ n) → SaidForm (form_hole operation rs) n (by_form (form_of operation rs) o)
  said_by_form operation rs n None same = tt
  said_by_form operation rs n (Some k) same = said_form operation rs k n (same k refl)

  said_numbered : (operation : ParcelOperation) (rs : List ℕ) (q : Option Operand) (o : Operand) → Other q o
      → SaidForm (form_hole operation rs) (Given q) (by_form (form_of operation rs) (constant_number c o))
  said_numbered operation rs q o other = said_by_form operation rs (Given q) (constant_number c o) (amount_is q o other)

  said_parcel : (operation : ParcelOperation) (shape : OperandShape) (operands : List Operand)
      → SaidForm (parcel_hole operation shape operands) (Given (other_operand operands)) (parcel_form c operation shape operands)
  -- by the operation first, as a hole is told
  said_parcel parcels.J shapes.Registers (Target e ∷ []) = tt
  said_parcel operation shapes.Registers [] = said_form operation [] (pos 0) (pos 0) refl
  said_parcel operation shapes.Registers (Register a ∷ []) = said_form operation (a ∷ []) (pos 0) (pos 0) refl
  said_parcel operation shapes.Registers (Register a ∷ Register b ∷ []) = said_form operation (a ∷ b ∷ []) (pos 0) (pos 0) refl
  said_parcel operation shapes.Number (Register a ∷ Register b ∷ o ∷ []) = said_numbered operation (a ∷ b ∷ []) (other_operand (o ∷ [])) o (first_other o [])
  said_parcel operation shapes.Number (Register a ∷ o ∷ []) = said_numbered operation (a ∷ []) (other_operand (o ∷ [])) o (first_other o [])
  said_parcel operation shapes.Address (Register a ∷ Register b ∷ []) = said_form operation (a ∷ b ∷ []) (pos 0) (pos 0) refl
  said_parcel operation shapes.Address (Register a ∷ o ∷ Register b ∷ []) =
      said_numbered operation (a ∷ b ∷ []) (other_operand (o ∷ Register b ∷ [])) o (first_other o (Register b ∷ []))
  said_parcel operation shape operands = tt

  said_short_branch : (t : Bool) (operation : BranchOperation) (rs : ℕ) (e : Expression) → Takes (Some (Target e))
      → Said (of_branch operation (b_type rs 0 (distance address (v e)))) (if t then Some (branch 2 operation rs 0) else None)
  said_short_branch true operation rs e takes =
      said_open kind.RvcBranch (of_branch operation (b_type rs 0 (pos 0))) _
      (branch_with operation (b_type rs 0 (pos 0)) (f kind.RvcBranch address) ∙ ap (λ w. of_branch operation (b_type rs 0 w)) (takes kind.RvcBranch address))
  said_short_branch false operation rs e takes = tt

  -- ---- all rows

  pub said_code : (rvc : Bool) (bytes : ℕ) (mnemonic : Mnemonic) (operands : List Operand) → IsPlain mnemonic operands → TakesOperand v pair f address (other_operand operands)
      → IsSaid f address (one_instruction (operand_gives v pair address) mnemonic operands) (code c rvc bytes mnemonic operands)
  said_code rvc bytes (Registers operation) (Register rd ∷ Register rs1 ∷ Register rs2 ∷ []) p takes = λ valid. refl
  said_code rvc bytes (Registers operation) (Register rd ∷ Register rs1 ∷ o ∷ []) p takes = said_constant (with_constant operation) rd rs1 (other_operand (o ∷ [])) o (first_other o []) takes
  said_code rvc bytes (Immediate operation) (Register rd ∷ Register rs1 ∷ o ∷ []) p takes =
      said_signed false (λ k. of_immediate operation (i_type rd rs1 k)) (other_operand (o ∷ [])) o (first_other o []) takes (immediate_with operation (i_type rd rs1 (pos 0)))
  said_code rvc bytes (Shift operation) (Register rd ∷ Register rs1 ∷ o ∷ []) p takes = said_amount (λ n. of_shift operation (shift_by rd rs1 n)) (other_operand (o ∷ [])) o (first_other o [])
  said_code rvc bytes (Upper operation) (Register rd ∷ o ∷ []) p takes = said_upper operation rd (other_operand (o ∷ [])) o (first_other o []) takes
  said_code rvc bytes (Load operation) (Register rd ∷ Register rs1 ∷ []) p takes = λ valid. refl
  said_code rvc bytes (Load operation) (Register rd ∷ Target e ∷ []) p takes = absurd p
  said_code rvc bytes (Load operation) (Register rd ∷ o ∷ Register rs1 ∷ []) p takes =
      said_signed false (λ k. of_load operation (i_type rd rs1 k)) (other_operand (o ∷ Register rs1 ∷ [])) o (first_other o (Register rs1 ∷ [])) takes (load_with operation (i_type rd rs1 (pos 0)))
  said_code rvc bytes (Store operation) (Register rs2 ∷ Register rs1 ∷ []) p takes = λ valid. refl
  said_code rvc bytes (Store operation) (Register rs2 ∷ Target e ∷ Register rt ∷ []) p takes = absurd p
  said_code rvc bytes (Store operation) (Register rs2 ∷ o ∷ Register rs1 ∷ []) p takes =
      said_signed true (λ k. of_store operation (s_type rs2 rs1 k)) (other_operand (o ∷ Register rs1 ∷ [])) o (first_other o (Register rs1 ∷ [])) takes (store_with operation (s_type rs2 rs1 (pos 0)))
  said_code rvc bytes (Branch operation) operands p takes = absurd p
  said_code rvc bytes (ZeroBranch operation) operands p takes = absurd p
  said_code rvc bytes (SwappedBranch operation) operands p takes = absurd p
  said_code rvc bytes (Unary operation) operands p takes = absurd p
  said_code rvc bytes (Compare operation) operands p takes = absurd p
  said_code rvc bytes La operands p takes = absurd p
  said_code rvc bytes Li operands p takes = absurd p
  said_code rvc bytes Call operands p takes = absurd p
  said_code rvc bytes Tail operands p takes = absurd p
  said_code rvc bytes Jump operands p takes = absurd p
  said_code rvc bytes Jal (Register rd ∷ Target e ∷ []) p takes = said_jump ((rd == 0) && (bytes == 2)) rd e takes
  said_code rvc bytes Jal (Target e ∷ []) p takes = said_jump ((1 == 0) && (bytes == 2)) 1 e takes
  said_code rvc bytes J (Target e ∷ []) p takes = said_jump ((0 == 0) && (bytes == 2)) 0 e takes
  said_code rvc bytes Jalr (Register rs1 ∷ []) p takes = λ valid. refl
  said_code rvc bytes Jalr (Register rd ∷ Register rs1 ∷ []) p takes = λ valid. refl
  said_code rvc bytes Jalr (o ∷ Register rs1 ∷ []) p takes =
      said_signed false (jalr 1 rs1) (other_operand (o ∷ Register rs1 ∷ [])) o (first_other o (Register rs1 ∷ [])) takes (λ w. refl)
  said_code rvc bytes Jalr (Register rd ∷ Register rs1 ∷ o ∷ []) p takes = said_signed false (jalr rd rs1) (other_operand (o ∷ [])) o (first_other o []) takes (λ w. refl)
  said_code rvc bytes Jalr (Register rd ∷ o ∷ Register rs1 ∷ []) p takes =
      said_signed false (jalr rd rs1) (other_operand (o ∷ Register rs1 ∷ [])) o (first_other o (Register rs1 ∷ [])) takes (λ w. refl)
  said_code rvc bytes Jr (Register rs ∷ []) p takes = λ valid. refl
  said_code rvc bytes Jr (o ∷ Register rs ∷ []) p takes =
      said_signed false (jalr 0 rs) (other_operand (o ∷ Register rs ∷ [])) o (first_other o (Register rs ∷ [])) takes (λ w. refl)
  said_code rvc bytes Ret [] p takes = λ valid. refl
  said_code rvc bytes (LoadReserved form) (Register rd ∷ Register rs1 ∷ []) p takes = λ valid. refl
  said_code rvc bytes (Atomic operation form) (Register rd ∷ Register rs2 ∷ Register rs1 ∷ []) p takes = λ valid. refl
  said_code rvc bytes Fence [] p takes = λ valid. refl
  said_code rvc bytes Fence (Accesses before ∷ Accesses after ∷ []) p takes = λ valid. refl
  said_code rvc bytes FenceTso [] p takes = λ valid. refl
  said_code rvc bytes Ecall [] p takes = λ valid. refl
  said_code rvc bytes Ebreak [] p takes = λ valid. refl
  said_code rvc bytes Nop [] p takes = λ valid. refl
  said_code rvc bytes (Parcel parcels.J) (Target e ∷ []) p takes = said_jump true 0 e takes
  said_code rvc bytes (Parcel parcels.Beqz) (Register rs ∷ Target e ∷ []) p takes = said_short_branch (is_of_set Short rs) Beq rs e takes
  said_code rvc bytes (Parcel parcels.Bnez) (Register rs ∷ Target e ∷ []) p takes = said_short_branch (is_of_set Short rs) Bne rs e takes
  said_code rvc bytes (Parcel operation) operands p takes = said_parcel operation (shape_of operation) operands
  said_code rvc bytes mnemonic operands p takes = tt
