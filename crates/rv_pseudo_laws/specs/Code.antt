-- The base instructions that stand for each statement of code, a row each (RISC-V Assembly
-- Programmer's Manual, "pseudoinstructions"; RISC-V ELF psABI, "Procedure Calls", "PC-Relative
-- Addresses" and "Relocations"; GNU as, "RISC-V-Modifiers"). A field that a relocation fills holds
-- 0.

use Rattle.std.specs.Prelude.{ℕ, ℤ, pos, negsuc, Bool, true, false, not, ◌&&◌, ◌==◌, if◌then◌else◌, List, [], ◌∷◌, map, Option, Some, None, option_map}
use Rattle.rv_isa.specs.declared.instruction.RType.{RType}
use Rattle.rv_isa.specs.declared.instruction.IType.{IType}
use Rattle.rv_isa.specs.declared.instruction.SType.{SType}
use Rattle.rv_isa.specs.declared.instruction.BType.{BType}
use Rattle.rv_isa.specs.declared.instruction.UType.{UType}
use Rattle.rv_isa.specs.declared.instruction.Shift.{Shift as ShiftOperands}
use Rattle.rv_isa.specs.declared.instruction.Atomic.{Atomic as AtomicOperands}
use Rattle.rv_isa.specs.declared.instruction.Reserve.{Reserve}
use Rattle.rv_isa.specs.declared.instruction.Inst.{Inst}
use Rattle.rv_isa.specs.declared.instruction.Inst.TheVariants as inst
use Rattle.rv_isa.specs.declared.kind.Kind.{Kind}
use Rattle.rv_isa.specs.declared.kind.Kind.TheVariants as kind
use Rattle.rv_isa.specs.declared.operation.BranchOperation.{BranchOperation}
use Rattle.rv_isa.specs.declared.operation.BranchOperation.TheVariants.{Beq, Bne, Blt, Bge, Bltu, Bgeu}
use Rattle.rv_isa.specs.declared.operation.AtomicForm.{AtomicForm}
use Rattle.rv_isa.specs.Operations.{of_registers, of_immediate, of_shift, of_upper, of_load, of_store, of_branch, of_reserve, of_atomic, access_bits, fence}
use Rattle.rv_isa_laws.specs.Arithmetic.{wrapped}
use Rattle.rv_isa_laws.specs.Halves.{hi, lo}
use Rattle.rv_parcel.specs.declared.form.Compressed.{Compressed}
use Rattle.rv_parcel.specs.declared.parcel.ParcelOperation.{ParcelOperation}
use Rattle.rv_parcel.specs.declared.parcel.ParcelOperation.TheVariants as parcels
use Rattle.rv_parcel.specs.declared.parcel.OperandShape.{OperandShape}
use Rattle.rv_parcel.specs.declared.parcel.OperandShape.TheVariants as shapes
use Rattle.rv_parcel.specs.declared.parcel.RegisterSet.TheVariants.{Short}
use Rattle.rv_parcel.specs.Mnemonics.{is_of_set, shape_of, form_of}
use Rattle.rv_parcel.specs.Parcel.{expansion}
use Rattle.rv_statement_laws.specs.declared.mnemonic.Mnemonic.{Mnemonic}
use Rattle.rv_statement_laws.specs.declared.mnemonic.Mnemonic.TheVariants.{Registers, Immediate, Shift, Upper, Load, Store, Branch, Jal, Jalr, LoadReserved, Atomic, Fence, FenceTso, Ecall, Ebreak, Nop, Unary, Compare, ZeroBranch, SwappedBranch, J, Jr, Ret, La, Li, Call, Tail, Jump, Parcel}
use Rattle.rv_statement_laws.specs.declared.pseudo.UnaryOperation.{UnaryOperation}
use Rattle.rv_statement_laws.specs.declared.pseudo.UnaryOperation.TheVariants.{Mv, Not, Neg, Negw, SextB, SextH, SextW, ZextB, ZextH, ZextW, Seqz, Snez, Sltz, Sgtz}
use Rattle.rv_statement_laws.specs.declared.pseudo.CompareOperation.{CompareOperation}
use Rattle.rv_statement_laws.specs.declared.pseudo.CompareOperation.TheVariants.{Sgt, Sgtu}
use Rattle.rv_statement_laws.specs.declared.pseudo.ZeroBranchOperation.{ZeroBranchOperation}
use Rattle.rv_statement_laws.specs.declared.pseudo.ZeroBranchOperation.TheVariants.{Beqz, Bnez, Bgez, Bltz, Blez, Bgtz}
use Rattle.rv_statement_laws.specs.declared.pseudo.SwappedBranchOperation.{SwappedBranchOperation}
use Rattle.rv_statement_laws.specs.declared.pseudo.SwappedBranchOperation.TheVariants.{Bgt, Ble, Bgtu, Bleu}
use Rattle.rv_statement_laws.specs.declared.pseudo.Function.TheVariants.{Hi, Lo, PcrelHi, PcrelLo}
use Rattle.rv_statement_laws.specs.Statement.{Operand, Register, Value, Applied, Target, Accesses, Expression}
use Rattle.rv_parse_laws.specs.Syntax.{with_constant}
use Rattle.rv_pseudo_laws.specs.Li.{addi, addiw, slli, li}

-- a part of a statement's code
pub data Part : Type 0 where
  -- an instruction whose fields are known
  Closed : (instruction : Inst) → Part
  -- one with a field that stays open, and the kind of relocation that fills it
  Open : (kind : Kind) (instruction : Inst) → Part
  -- two instructions whose fields are filled as one
  Joined : (kind : Kind) (first second : Inst) → Part

abbrev pub alone : Inst → Option (List Part)
alone i = Some (Closed i ∷ [])

abbrev pub opened : Kind → Inst → Option (List Part)
opened k i = Some (Open k i ∷ [])

abbrev pub all_closed : List Inst → Option (List Part)
all_closed instructions = Some (map Closed instructions)

-- ---- operands of the formats

abbrev pub r_type : ℕ → ℕ → ℕ → RType
r_type rd rs1 rs2 = record { rd = rd; rs1 = rs1; rs2 = rs2 }

abbrev pub i_type : ℕ → ℕ → ℤ → IType
i_type rd rs1 k = record { immediate = k; rd = rd; rs1 = rs1 }

abbrev pub s_type : ℕ → ℕ → ℤ → SType
s_type rs2 rs1 k = record { immediate = k; rs1 = rs1; rs2 = rs2 }

abbrev pub b_type : ℕ → ℕ → ℤ → BType
b_type rs1 rs2 offset = record { offset = offset; rs1 = rs1; rs2 = rs2 }

abbrev pub u_type : ℕ → ℕ → UType
u_type rd upper = record { immediate = upper; rd = rd }

abbrev pub shift_by : ℕ → ℕ → ℕ → ShiftOperands
shift_by rd rs1 amount = record { rd = rd; rs1 = rs1; amount = amount }

abbrev pub reserve : AtomicForm → ℕ → ℕ → Reserve
reserve form rd rs1 = record { rd = rd; rs1 = rs1; acquire = form.acquire; release = form.release }

abbrev pub atomic : AtomicForm → ℕ → ℕ → ℕ → AtomicOperands
atomic form rd rs2 rs1 =
    record { rd = rd; rs1 = rs1; rs2 = rs2; acquire = form.acquire; release = form.release }

abbrev pub jalr : ℕ → ℕ → ℤ → Inst
jalr rd rs1 k = inst.Jalr (i_type rd rs1 k)

-- a jump to a target, and the upper part of a distance, that are open
abbrev pub jal : ℕ → Inst
jal rd = inst.Jal (record { offset = pos 0; rd = rd })

abbrev pub auipc : ℕ → Inst
auipc rd = inst.Auipc (u_type rd 0)

-- ---- statements without an expression

-- rd, rs; `mv` by the instruction that has a form of two bytes, where compressed code is on
abbrev pub unary : Bool → UnaryOperation → ℕ → ℕ → List Inst
unary rvc Mv rd rs =
    (if rvc && not (rd == 0) && not (rs == 0)
    then inst.Add (r_type rd 0 rs) else addi rd rs (pos 0)) ∷ []
unary rvc Not rd rs = inst.Xori (i_type rd rs (negsuc 0)) ∷ []
unary rvc Neg rd rs = inst.Sub (r_type rd 0 rs) ∷ []
unary rvc Negw rd rs = inst.Subw (r_type rd 0 rs) ∷ []
unary rvc SextW rd rs = addiw rd rs (pos 0) ∷ []
unary rvc ZextB rd rs = inst.Andi (i_type rd rs (pos 255)) ∷ []
unary rvc SextB rd rs = slli rd rs 56 ∷ inst.Srai (shift_by rd rd 56) ∷ []
unary rvc SextH rd rs = slli rd rs 48 ∷ inst.Srai (shift_by rd rd 48) ∷ []
unary rvc ZextH rd rs = slli rd rs 48 ∷ inst.Srli (shift_by rd rd 48) ∷ []
unary rvc ZextW rd rs = slli rd rs 32 ∷ inst.Srli (shift_by rd rd 32) ∷ []
unary rvc Seqz rd rs = inst.Sltiu (i_type rd rs (pos 1)) ∷ []
unary rvc Snez rd rs = inst.Sltu (r_type rd 0 rs) ∷ []
unary rvc Sltz rd rs = inst.Slt (r_type rd rs 0) ∷ []
unary rvc Sgtz rd rs = inst.Slt (r_type rd 0 rs) ∷ []

abbrev pub compare : CompareOperation → ℕ → ℕ → ℕ → Inst
compare Sgt rd a b = inst.Slt (r_type rd b a)
compare Sgtu rd a b = inst.Sltu (r_type rd b a)

-- ---- statements with a target

abbrev pub inverted : BranchOperation → BranchOperation
inverted Beq = Bne
inverted Bne = Beq
inverted Blt = Bge
inverted Bge = Blt
inverted Bltu = Bgeu
inverted Bgeu = Bltu

-- a branch of 2 bytes, of 8, where the inverted branch goes over a jump, or of 4
abbrev pub branch : ℕ → BranchOperation → ℕ → ℕ → List Part
branch bytes operation rs1 rs2 =
    if bytes == 2 then Open kind.RvcBranch (of_branch operation (b_type rs1 rs2 (pos 0))) ∷ []
    else if bytes == 8
    then Closed (of_branch (inverted operation) (b_type rs1 rs2 (pos 8)))
    ∷ Open kind.Jal (jal 0) ∷ []
    else Open kind.Branch (of_branch operation (b_type rs1 rs2 (pos 0))) ∷ []

abbrev pub jump : ℕ → ℕ → List Part
jump bytes rd = Open (if (rd == 0) && (bytes == 2) then kind.RvcJump else kind.Jal) (jal rd) ∷ []

-- an address within reach of the pc by two instructions: the upper part in a register, and the
-- instruction that takes the rest
abbrev pub near : ℕ → Kind → Inst → List Part
near rd rest i = Open kind.PcrelHi20 (auipc rd) ∷ Open rest i ∷ []

-- a jump to an address within reach of the pc: through a register, or, where relaxation has
-- shortened it, by itself
abbrev pub far : ℕ → ℕ → ℕ → List Part
far bytes link through =
    if bytes == 8 then Joined kind.CallPlt (auipc through) (jalr link through (pos 0)) ∷ []
    else jump bytes link

-- a register that holds an address on the way is not x0
abbrev pub through : ℕ → List Part → Option (List Part)
through register parts = if register == 0 then None else Some parts

abbrev pub zero_branch : ℕ → ZeroBranchOperation → ℕ → List Part
zero_branch bytes Beqz rs = branch bytes Beq rs 0
zero_branch bytes Bnez rs = branch bytes Bne rs 0
zero_branch bytes Bgez rs = branch bytes Bge rs 0
zero_branch bytes Bltz rs = branch bytes Blt rs 0
zero_branch bytes Blez rs = branch bytes Bge 0 rs
zero_branch bytes Bgtz rs = branch bytes Blt 0 rs

abbrev pub swapped_branch : ℕ → SwappedBranchOperation → ℕ → ℕ → List Part
swapped_branch bytes Bgt a b = branch bytes Blt b a
swapped_branch bytes Ble a b = branch bytes Bge b a
swapped_branch bytes Bgtu a b = branch bytes Bltu b a
swapped_branch bytes Bleu a b = branch bytes Bgeu b a

-- ---- statements with a number, or with a part of an address in place of one

abbrev pub Constants : Type 0
Constants = Expression → Option ℤ

-- a number has to be a constant
abbrev pub by_number : (ℤ → Inst) → Option ℤ → Option (List Part)
by_number make None = None
by_number make (Some k) = alone (make k)

-- a part of an address: of a constant by itself, of an address that is open under a relocation
abbrev pub by_part : Kind → (ℤ → Inst) → Option ℤ → Option (List Part)
by_part k make None = opened k (make (pos 0))
by_part k make (Some n) = alone (make n)

-- an operand of twelve bits with sign, in a store or in another instruction
abbrev pub signed_12 : Constants → Bool → (ℤ → Inst) → Operand → Option (List Part)
signed_12 v store make (Value e) = by_number make (v e)
signed_12 v store make (Applied Lo e) =
    by_part (if store then kind.Lo12S else kind.Lo12I) make (option_map lo (v e))
signed_12 v store make (Applied PcrelLo e) =
    opened (if store then kind.PcrelLo12S else kind.PcrelLo12I) (make (pos 0))
signed_12 v store make o = None

-- the twenty bits of `lui` and `auipc`
abbrev pub upper_20 : Constants → (ℕ → Inst) → Operand → Option (List Part)
upper_20 v make (Value e) = by_number (λ k. make (wrapped k)) (v e)
upper_20 v make (Applied Hi e) = by_part kind.Hi20 (λ k. make (wrapped k)) (option_map hi (v e))
upper_20 v make (Applied PcrelHi e) = opened kind.PcrelHi20 (make 0)
upper_20 v make o = None

-- a number, or the low part of one, that is a constant
abbrev pub constant_number : Constants → Operand → Option ℤ
constant_number v (Value e) = v e
constant_number v (Applied Lo e) = option_map lo (v e)
constant_number v o = None

abbrev pub by_amount : Constants → (ℕ → Inst) → Operand → Option (List Part)
by_amount v make o = by_number (λ k. make (wrapped k)) (constant_number v o)

-- the form with a constant of an operation on registers
abbrev pub by_constant : Constants → Option Mnemonic → ℕ → ℕ → Operand → Option (List Part)
by_constant v (Some (Immediate operation)) rd rs1 o =
    signed_12 v false (λ k. of_immediate operation (i_type rd rs1 k)) o
by_constant v (Some (Shift operation)) rd rs1 o =
    by_amount v (λ n. of_shift operation (shift_by rd rs1 n)) o
by_constant v _ rd rs1 o = None

-- ---- parcels

abbrev pub by_form : (ℤ → Option Compressed) → Option ℤ → Option Compressed
by_form make None = None
by_form make (Some k) = make k

-- the form that a mnemonic is with operands; none where a number is open, or a target stands
abbrev pub parcel_form : Constants → ParcelOperation → OperandShape → List Operand →
    Option Compressed
parcel_form v operation shapes.Registers [] = form_of operation [] (pos 0)
parcel_form v operation shapes.Registers (Register a ∷ []) = form_of operation (a ∷ []) (pos 0)
parcel_form v operation shapes.Registers (Register a ∷ Register b ∷ []) =
    form_of operation (a ∷ b ∷ []) (pos 0)
parcel_form v operation shapes.Number (Register a ∷ Register b ∷ o ∷ []) =
    by_form (form_of operation (a ∷ b ∷ [])) (constant_number v o)
parcel_form v operation shapes.Number (Register a ∷ o ∷ []) =
    by_form (form_of operation (a ∷ [])) (constant_number v o)
parcel_form v operation shapes.Address (Register a ∷ Register b ∷ []) =
    form_of operation (a ∷ b ∷ []) (pos 0)
parcel_form v operation shapes.Address (Register a ∷ o ∷ Register b ∷ []) =
    by_form (form_of operation (a ∷ b ∷ [])) (constant_number v o)
parcel_form v operation shape operands = None

-- the form of a parcel that a statement names: that one it has, and no shorter or longer one
abbrev pub named_form : Constants → Mnemonic → List Operand → Option Compressed
named_form v (Parcel operation) operands = parcel_form v operation (shape_of operation) operands
named_form v mnemonic operands = None

-- a branch on one of x8 to x15
abbrev pub short_branch : BranchOperation → ℕ → Option (List Part)
short_branch operation rs = if is_of_set Short rs then Some (branch 2 operation rs 0) else None

-- ---- all rows

-- the code of a statement, where `rvc` says whether compressed code is on and `bytes` how long a
-- branch, a jump or a call is; none for operands that it can't have
abbrev pub code : Constants → (rvc : Bool) → (bytes : ℕ) → Mnemonic → List Operand →
    Option (List Part)
code v rvc bytes (Registers operation) (Register rd ∷ Register rs1 ∷ Register rs2 ∷ []) =
    alone (of_registers operation (r_type rd rs1 rs2))
code v rvc bytes (Registers operation) (Register rd ∷ Register rs1 ∷ o ∷ []) =
    by_constant v (with_constant operation) rd rs1 o
code v rvc bytes (Immediate operation) (Register rd ∷ Register rs1 ∷ o ∷ []) =
    signed_12 v false (λ k. of_immediate operation (i_type rd rs1 k)) o
code v rvc bytes (Shift operation) (Register rd ∷ Register rs1 ∷ o ∷ []) =
    by_amount v (λ n. of_shift operation (shift_by rd rs1 n)) o
code v rvc bytes (Upper operation) (Register rd ∷ o ∷ []) =
    upper_20 v (λ n. of_upper operation (u_type rd n)) o
code v rvc bytes (Load operation) (Register rd ∷ Register rs1 ∷ []) =
    alone (of_load operation (i_type rd rs1 (pos 0)))
code v rvc bytes (Load operation) (Register rd ∷ Target e ∷ []) =
    through rd (near rd kind.PcrelLo12I (of_load operation (i_type rd rd (pos 0))))
code v rvc bytes (Load operation) (Register rd ∷ o ∷ Register rs1 ∷ []) =
    signed_12 v false (λ k. of_load operation (i_type rd rs1 k)) o
code v rvc bytes (Store operation) (Register rs2 ∷ Register rs1 ∷ []) =
    alone (of_store operation (s_type rs2 rs1 (pos 0)))
code v rvc bytes (Store operation) (Register rs2 ∷ Target e ∷ Register rt ∷ []) =
    if rt == rs2 then None
    else through rt (near rt kind.PcrelLo12S (of_store operation (s_type rs2 rt (pos 0))))
code v rvc bytes (Store operation) (Register rs2 ∷ o ∷ Register rs1 ∷ []) =
    signed_12 v true (λ k. of_store operation (s_type rs2 rs1 k)) o
code v rvc bytes (Branch operation) (Register rs1 ∷ Register rs2 ∷ Target e ∷ []) =
    Some (branch bytes operation rs1 rs2)
code v rvc bytes (ZeroBranch operation) (Register rs ∷ Target e ∷ []) =
    Some (zero_branch bytes operation rs)
code v rvc bytes (SwappedBranch operation) (Register a ∷ Register b ∷ Target e ∷ []) =
    Some (swapped_branch bytes operation a b)
code v rvc bytes Jal (Register rd ∷ Target e ∷ []) = Some (jump bytes rd)
code v rvc bytes Jal (Target e ∷ []) = Some (jump bytes 1)
code v rvc bytes J (Target e ∷ []) = Some (jump bytes 0)
code v rvc bytes Jalr (Register rs1 ∷ []) = alone (jalr 1 rs1 (pos 0))
code v rvc bytes Jalr (Register rd ∷ Register rs1 ∷ []) = alone (jalr rd rs1 (pos 0))
code v rvc bytes Jalr (o ∷ Register rs1 ∷ []) = signed_12 v false (jalr 1 rs1) o
code v rvc bytes Jalr (Register rd ∷ Register rs1 ∷ o ∷ []) = signed_12 v false (jalr rd rs1) o
code v rvc bytes Jalr (Register rd ∷ o ∷ Register rs1 ∷ []) = signed_12 v false (jalr rd rs1) o
code v rvc bytes Jr (Register rs ∷ []) = alone (jalr 0 rs (pos 0))
code v rvc bytes Jr (o ∷ Register rs ∷ []) = signed_12 v false (jalr 0 rs) o
code v rvc bytes Ret [] = alone (jalr 0 1 (pos 0))
code v rvc bytes (LoadReserved form) (Register rd ∷ Register rs1 ∷ []) =
    alone (of_reserve form.double (reserve form rd rs1))
code v rvc bytes (Atomic operation form) (Register rd ∷ Register rs2 ∷ Register rs1 ∷ []) =
    alone (of_atomic operation form.double (atomic form rd rs2 rs1))
code v rvc bytes Fence [] = alone (fence 0 15 15)
code v rvc bytes Fence (Accesses before ∷ Accesses after ∷ []) =
    alone (fence 0 (access_bits before) (access_bits after))
code v rvc bytes FenceTso [] = alone (fence 8 3 3)
code v rvc bytes Ecall [] = alone inst.Ecall
code v rvc bytes Ebreak [] = alone inst.Ebreak
code v rvc bytes Nop [] = alone (addi 0 0 (pos 0))
code v rvc bytes (Unary operation) (Register rd ∷ Register rs ∷ []) =
    all_closed (unary rvc operation rd rs)
code v rvc bytes (Compare operation) (Register rd ∷ Register a ∷ Register b ∷ []) =
    alone (compare operation rd a b)
code v rvc bytes La (Register rd ∷ Target e ∷ []) =
    Some (near rd kind.PcrelLo12I (addi rd rd (pos 0)))
code v rvc bytes Li (Register rd ∷ o ∷ []) =
    option_map (λ k. map Closed (li rd k)) (constant_number v o)
code v rvc bytes Call (Register rd ∷ Target e ∷ []) = through rd (far bytes rd rd)
code v rvc bytes Call (Target e ∷ []) = Some (far bytes 1 1)
code v rvc bytes Tail (Target e ∷ []) = Some (far bytes 0 6)
code v rvc bytes Jump (Target e ∷ Register rt ∷ []) = through rt (far bytes 0 rt)
code v rvc bytes (Parcel parcels.J) (Target e ∷ []) = Some (jump 2 0)
code v rvc bytes (Parcel parcels.Beqz) (Register rs ∷ Target e ∷ []) = short_branch Beq rs
code v rvc bytes (Parcel parcels.Bnez) (Register rs ∷ Target e ∷ []) = short_branch Bne rs
code v rvc bytes (Parcel operation) operands =
    option_map (λ form. Closed (expansion form) ∷ [])
    (named_form v (Parcel operation) operands)
code v rvc bytes mnemonic operands = None
