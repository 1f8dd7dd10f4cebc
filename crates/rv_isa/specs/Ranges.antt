-- The operands that each instruction of RV64IMA has, and their ranges
-- (RISC-V Unprivileged ISA 20191213, sections 2.2, 2.3, 2.7, 5.2, 8.2 and chapter 24).

use Rattle.std.specs.Prelude.{◌≡◌, ℕ, ◌<◌, ◌%◌, ◌^◌, ℤ, pos, negsuc, ◌≤ℤ◌, unsigned_abs}
use Rattle.rv_isa.specs.declared.instruction.RType.{RType}
use Rattle.rv_isa.specs.declared.instruction.IType.{IType}
use Rattle.rv_isa.specs.declared.instruction.Shift.{Shift}
use Rattle.rv_isa.specs.declared.instruction.SType.{SType}
use Rattle.rv_isa.specs.declared.instruction.BType.{BType}
use Rattle.rv_isa.specs.declared.instruction.UType.{UType}
use Rattle.rv_isa.specs.declared.instruction.JType.{JType}
use Rattle.rv_isa.specs.declared.instruction.Atomic.{Atomic}
use Rattle.rv_isa.specs.declared.instruction.Reserve.{Reserve}
use Rattle.rv_isa.specs.declared.instruction.Fence.{Fence as FenceOperands}
use Rattle.rv_isa.specs.declared.instruction.Inst.{Inst}
use Rattle.rv_isa.specs.declared.instruction.Format.{Format}
use Rattle.rv_isa.specs.declared.instruction.Format.TheVariants as format
use Rattle.rv_isa.specs.declared.operation.ShiftOperation.{ShiftOperation}
use Rattle.rv_isa.specs.declared.operation.ShiftOperation.TheVariants.{Slli, Srli, Srai, Slliw, Srliw, Sraiw}
use Rattle.rv_isa.specs.Operations.{format_of}

-- one of x0 to x31
abbrev pub IsReg : ℕ → Type 0
IsReg r = r < 32

-- a number of 12 bits in two's complement: -2048 to 2047
abbrev pub IsSigned12 : ℤ → Type 0
IsSigned12 z = (negsuc 2047 ≤ℤ z) × (z ≤ℤ pos 2047)

-- a branch's offset: even, 13 bits in two's complement
abbrev pub IsBranchOffset : ℤ → Type 0
IsBranchOffset z = (negsuc 4095 ≤ℤ z) × (z ≤ℤ pos 4094) × (unsigned_abs z % 2 ≡ 0)

-- a jump's offset: even, 21 bits in two's complement
abbrev pub IsJumpOffset : ℤ → Type 0
IsJumpOffset z = (negsuc 1048575 ≤ℤ z) × (z ≤ℤ pos 1048574) × (unsigned_abs z % 2 ≡ 0)

abbrev pub IsRType : RType → Type 0
IsRType x = IsReg x.rd × IsReg x.rs1 × IsReg x.rs2

abbrev pub IsIType : IType → Type 0
IsIType x = IsReg x.rd × IsReg x.rs1 × IsSigned12 x.immediate

-- a shift of a whole register, by 0 to 63
abbrev pub IsShift : Shift → Type 0
IsShift x = IsReg x.rd × IsReg x.rs1 × (x.amount < 64)

-- a shift of a register's low half, by 0 to 31
abbrev pub IsWordShift : Shift → Type 0
IsWordShift x = IsReg x.rd × IsReg x.rs1 × (x.amount < 32)

abbrev pub IsSType : SType → Type 0
IsSType x = IsReg x.rs1 × IsReg x.rs2 × IsSigned12 x.immediate

abbrev pub IsBType : BType → Type 0
IsBType x = IsReg x.rs1 × IsReg x.rs2 × IsBranchOffset x.offset

abbrev pub IsUType : UType → Type 0
IsUType x = IsReg x.rd × (x.immediate < 2 ^ 20)

abbrev pub IsJType : JType → Type 0
IsJType x = IsReg x.rd × IsJumpOffset x.offset

abbrev pub IsAtomic : Atomic → Type 0
IsAtomic x = IsReg x.rd × IsReg x.rs1 × IsReg x.rs2

abbrev pub IsReserve : Reserve → Type 0
IsReserve x = IsReg x.rd × IsReg x.rs1

abbrev pub IsFence : FenceOperands → Type 0
IsFence x = (x.fm < 16) × (x.pred < 16) × (x.succ < 16) × IsReg x.rs1 × IsReg x.rd

-- the amounts of a shift are below the number of the bits that it shifts
abbrev pub shift_limit : ShiftOperation → ℕ
shift_limit Slli = 64
shift_limit Srli = 64
shift_limit Srai = 64
shift_limit Slliw = 32
shift_limit Srliw = 32
shift_limit Sraiw = 32

abbrev pub IsShiftOf : ShiftOperation → Shift → Type 0
IsShiftOf operation x = IsReg x.rd × IsReg x.rs1 × (x.amount < shift_limit operation)

-- the ranges of each format
abbrev pub IsValidFormat : Format → Type 0
IsValidFormat (format.Registers operation x) = IsRType x
IsValidFormat (format.Immediate operation x) = IsIType x
IsValidFormat (format.Shift operation x) = IsShiftOf operation x
IsValidFormat (format.Upper operation x) = IsUType x
IsValidFormat (format.Load operation x) = IsIType x
IsValidFormat (format.Store operation x) = IsSType x
IsValidFormat (format.Branch operation x) = IsBType x
IsValidFormat (format.Jal x) = IsJType x
IsValidFormat (format.Jalr x) = IsIType x
IsValidFormat (format.LoadReserved double x) = IsReserve x
IsValidFormat (format.Atomic operation double x) = IsAtomic x
IsValidFormat (format.Fence x) = IsFence x
IsValidFormat format.Ecall = Unit {0}
IsValidFormat format.Ebreak = Unit {0}

-- every operand is in its range
abbrev pub IsValid : Inst → Type 0
IsValid i = IsValidFormat (format_of i)
