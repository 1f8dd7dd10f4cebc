-- The one base instruction that a statement spells by its mnemonic and its registers,
-- with a hole for the number that its other operand gives, if it has one (RISC-V Unprivileged ISA
-- 20191213, chapter 24; RISC-V Assembly Programmer's Manual, "pseudoinstructions"). No file,
-- no field of one and no linker is spoken of here.

use Rattle.std.specs.Prelude.{ℕ, ℤ, pos, ◌%◌, ◌^◌, List, [], ◌∷◌, Option, Some, None, option_map}
use Rattle.rv_isa.specs.declared.instruction.Inst.{Inst}
use Rattle.rv_isa.specs.declared.instruction.Inst.TheVariants as inst
use Rattle.rv_isa.specs.Operations.{of_registers, of_immediate, of_shift, of_upper, of_load, of_store, of_reserve, of_atomic, access_bits, fence}
use Rattle.rv_isa_laws.specs.Arithmetic.{wrapped}
use Rattle.rv_parcel.specs.declared.parcel.ParcelOperation.{ParcelOperation}
use Rattle.rv_parcel.specs.declared.parcel.ParcelOperation.TheVariants as parcels
use Rattle.rv_parcel.specs.declared.parcel.OperandShape.{OperandShape}
use Rattle.rv_parcel.specs.declared.parcel.OperandShape.TheVariants as shapes
use Rattle.rv_parcel.specs.Mnemonics.{shape_of, form_with}
use Rattle.rv_parcel.specs.Parcel.{expansion}
use Rattle.rv_statement_laws.specs.declared.mnemonic.Mnemonic.{Mnemonic}
use Rattle.rv_statement_laws.specs.declared.mnemonic.Mnemonic.TheVariants.{Registers, Immediate, Shift, Upper, Load, Store, Jal, Jalr, LoadReserved, Atomic, Fence, FenceTso, Ecall, Ebreak, Nop, J, Jr, Ret, Parcel}
use Rattle.rv_statement_laws.specs.Statement.{Operand, Register, Target, Accesses}
use Rattle.rv_parse_laws.specs.Syntax.{with_constant}
use Rattle.rv_pseudo_laws.specs.Li.{addi}
use Rattle.rv_pseudo_laws.specs.Code.{r_type, i_type, s_type, b_type, u_type, shift_by, reserve, atomic, jalr}

-- an instruction by the number that fills its hole
abbrev pub Hole : Type 0
Hole = ℤ → Inst

-- without a hole: the same by any number
abbrev pub whole : Inst → Option Hole
whole i = Some (λ k. i)

-- the twenty bits of `lui` and `auipc`
abbrev pub upper_hole : (ℕ → Inst) → Option Hole
upper_hole make = Some (λ k. make (wrapped k % 2 ^ 20))

-- the amount of a shift
abbrev pub shift_hole : (ℕ → Inst) → Option Hole
shift_hole make = Some (λ k. make (wrapped k))

-- a jump by a distance
abbrev pub jump_hole : ℕ → Option Hole
jump_hole rd = Some (λ k. inst.Jal (record { offset = k; rd = rd }))

-- the form with a constant of an operation on registers
abbrev pub constant_hole : Option Mnemonic → ℕ → ℕ → Option Hole
constant_hole (Some (Immediate operation)) rd rs1 =
    Some (λ k. of_immediate operation (i_type rd rs1 k))
constant_hole (Some (Shift operation)) rd rs1 =
    shift_hole (λ n. of_shift operation (shift_by rd rs1 n))
constant_hole _ rd rs1 = None

-- what a parcel with these registers stands for
abbrev pub form_hole : ParcelOperation → List ℕ → Option Hole
form_hole operation registers =
    option_map (λ make. λ k. expansion (make k)) (form_with operation registers)

abbrev pub parcel_hole : ParcelOperation → OperandShape → List Operand → Option Hole
parcel_hole parcels.J shape (Target e ∷ []) = jump_hole 0
parcel_hole parcels.Beqz shape (Register rs ∷ Target e ∷ []) =
    Some (λ k. inst.Beq (b_type rs 0 k))
parcel_hole parcels.Bnez shape (Register rs ∷ Target e ∷ []) =
    Some (λ k. inst.Bne (b_type rs 0 k))
parcel_hole operation shapes.Registers [] = form_hole operation []
parcel_hole operation shapes.Registers (Register a ∷ []) = form_hole operation (a ∷ [])
parcel_hole operation shapes.Registers (Register a ∷ Register b ∷ []) =
    form_hole operation (a ∷ b ∷ [])
parcel_hole operation shapes.Number (Register a ∷ Register b ∷ o ∷ []) =
    form_hole operation (a ∷ b ∷ [])
parcel_hole operation shapes.Number (Register a ∷ o ∷ []) = form_hole operation (a ∷ [])
parcel_hole operation shapes.Address (Register a ∷ Register b ∷ []) =
    form_hole operation (a ∷ b ∷ [])
parcel_hole operation shapes.Address (Register a ∷ o ∷ Register b ∷ []) =
    form_hole operation (a ∷ b ∷ [])
parcel_hole operation shape operands = None

-- none for operands that it can't have, and for what is said by more than one instruction
abbrev pub hole : Mnemonic → List Operand → Option Hole
hole (Registers operation) (Register rd ∷ Register rs1 ∷ Register rs2 ∷ []) =
    whole (of_registers operation (r_type rd rs1 rs2))
hole (Registers operation) (Register rd ∷ Register rs1 ∷ o ∷ []) =
    constant_hole (with_constant operation) rd rs1
hole (Immediate operation) (Register rd ∷ Register rs1 ∷ o ∷ []) =
    Some (λ k. of_immediate operation (i_type rd rs1 k))
hole (Shift operation) (Register rd ∷ Register rs1 ∷ o ∷ []) =
    shift_hole (λ n. of_shift operation (shift_by rd rs1 n))
hole (Upper operation) (Register rd ∷ o ∷ []) =
    upper_hole (λ n. of_upper operation (u_type rd n))
hole (Load operation) (Register rd ∷ Register rs1 ∷ []) =
    whole (of_load operation (i_type rd rs1 (pos 0)))
hole (Load operation) (Register rd ∷ o ∷ Register rs1 ∷ []) =
    Some (λ k. of_load operation (i_type rd rs1 k))
hole (Store operation) (Register rs2 ∷ Register rs1 ∷ []) =
    whole (of_store operation (s_type rs2 rs1 (pos 0)))
hole (Store operation) (Register rs2 ∷ Target e ∷ Register rt ∷ []) = None
hole (Store operation) (Register rs2 ∷ o ∷ Register rs1 ∷ []) =
    Some (λ k. of_store operation (s_type rs2 rs1 k))
hole Jal (Register rd ∷ Target e ∷ []) = jump_hole rd
hole Jal (Target e ∷ []) = jump_hole 1
hole J (Target e ∷ []) = jump_hole 0
hole Jalr (Register rs1 ∷ []) = whole (jalr 1 rs1 (pos 0))
hole Jalr (Register rd ∷ Register rs1 ∷ []) = whole (jalr rd rs1 (pos 0))
hole Jalr (o ∷ Register rs1 ∷ []) = Some (jalr 1 rs1)
hole Jalr (Register rd ∷ Register rs1 ∷ o ∷ []) = Some (jalr rd rs1)
hole Jalr (Register rd ∷ o ∷ Register rs1 ∷ []) = Some (jalr rd rs1)
hole Jr (Register rs ∷ []) = whole (jalr 0 rs (pos 0))
hole Jr (o ∷ Register rs ∷ []) = Some (jalr 0 rs)
hole Ret [] = whole (jalr 0 1 (pos 0))
hole (LoadReserved form) (Register rd ∷ Register rs1 ∷ []) =
    whole (of_reserve form.double (reserve form rd rs1))
hole (Atomic operation form) (Register rd ∷ Register rs2 ∷ Register rs1 ∷ []) =
    whole (of_atomic operation form.double (atomic form rd rs2 rs1))
hole Fence [] = whole (fence 0 15 15)
hole Fence (Accesses before ∷ Accesses after ∷ []) =
    whole (fence 0 (access_bits before) (access_bits after))
hole FenceTso [] = whole (fence 8 3 3)
hole Ecall [] = whole inst.Ecall
hole Ebreak [] = whole inst.Ebreak
hole Nop [] = whole (addi 0 0 (pos 0))
hole (Parcel operation) operands = parcel_hole operation (shape_of operation) operands
hole mnemonic operands = None
