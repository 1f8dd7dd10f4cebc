-- The operations of each format: the instructions that they write, and their names; and the format
-- of each instruction (RISC-V Unprivileged ISA 20191213, section 2.2 for the formats and chapter 24
-- for the table).

use Rattle.std.specs.Prelude.{ℕ, ◌+◌, ◌*◌, Bool, true, false, List, codes}
use Rattle.std.specs.Int.{from_bool}
use Rattle.rv_isa.specs.declared.instruction.RType.{RType}
use Rattle.rv_isa.specs.declared.instruction.IType.{IType}
use Rattle.rv_isa.specs.declared.instruction.SType.{SType}
use Rattle.rv_isa.specs.declared.instruction.BType.{BType}
use Rattle.rv_isa.specs.declared.instruction.UType.{UType}
use Rattle.rv_isa.specs.declared.instruction.Shift.{Shift as ShiftOperands}
use Rattle.rv_isa.specs.declared.instruction.Atomic.{Atomic as AtomicOperands}
use Rattle.rv_isa.specs.declared.instruction.Reserve.{Reserve}
use Rattle.rv_isa.specs.declared.instruction.Inst.{Inst}
use Rattle.rv_isa.specs.declared.instruction.Inst.TheVariants as inst
use Rattle.rv_isa.specs.declared.instruction.Format.{Format}
use Rattle.rv_isa.specs.declared.instruction.Format.TheVariants.{Registers, Immediate, Shift, Upper, Load, Store, Branch, Jal, Jalr, LoadReserved, Atomic, Fence, Ecall, Ebreak}
use Rattle.rv_isa.specs.declared.operation.RegisterOperation.{RegisterOperation}
use Rattle.rv_isa.specs.declared.operation.RegisterOperation.TheVariants.{Add, Sub, Sll, Slt, Sltu, Xor, Srl, Sra, Or, And, Addw, Subw, Sllw, Srlw, Sraw, Mul, Mulh, Mulhsu, Mulhu, Div, Divu, Rem, Remu, Mulw, Divw, Divuw, Remw, Remuw}
use Rattle.rv_isa.specs.declared.operation.ImmediateOperation.{ImmediateOperation}
use Rattle.rv_isa.specs.declared.operation.ImmediateOperation.TheVariants.{Addi, Slti, Sltiu, Xori, Ori, Andi, Addiw}
use Rattle.rv_isa.specs.declared.operation.ShiftOperation.{ShiftOperation}
use Rattle.rv_isa.specs.declared.operation.ShiftOperation.TheVariants.{Slli, Srli, Srai, Slliw, Srliw, Sraiw}
use Rattle.rv_isa.specs.declared.operation.UpperOperation.{UpperOperation}
use Rattle.rv_isa.specs.declared.operation.UpperOperation.TheVariants.{Lui, Auipc}
use Rattle.rv_isa.specs.declared.operation.LoadOperation.{LoadOperation}
use Rattle.rv_isa.specs.declared.operation.LoadOperation.TheVariants.{Lb, Lh, Lw, Ld, Lbu, Lhu, Lwu}
use Rattle.rv_isa.specs.declared.operation.StoreOperation.{StoreOperation}
use Rattle.rv_isa.specs.declared.operation.StoreOperation.TheVariants.{Sb, Sh, Sw, Sd}
use Rattle.rv_isa.specs.declared.operation.BranchOperation.{BranchOperation}
use Rattle.rv_isa.specs.declared.operation.BranchOperation.TheVariants.{Beq, Bne, Blt, Bge, Bltu, Bgeu}
use Rattle.rv_isa.specs.declared.operation.AtomicOperation.{AtomicOperation}
use Rattle.rv_isa.specs.declared.operation.AtomicOperation.TheVariants.{Sc, Amoswap, Amoadd, Amoxor, Amoand, Amoor, Amomin, Amomax, Amominu, Amomaxu}
use Rattle.rv_isa.specs.declared.operation.AccessSet.{AccessSet}

-- ---- the instruction of each operation

abbrev pub of_registers : RegisterOperation → RType → Inst
of_registers Add x = inst.Add x
of_registers Sub x = inst.Sub x
of_registers Sll x = inst.Sll x
of_registers Slt x = inst.Slt x
of_registers Sltu x = inst.Sltu x
of_registers Xor x = inst.Xor x
of_registers Srl x = inst.Srl x
of_registers Sra x = inst.Sra x
of_registers Or x = inst.Or x
of_registers And x = inst.And x
of_registers Addw x = inst.Addw x
of_registers Subw x = inst.Subw x
of_registers Sllw x = inst.Sllw x
of_registers Srlw x = inst.Srlw x
of_registers Sraw x = inst.Sraw x
of_registers Mul x = inst.Mul x
of_registers Mulh x = inst.Mulh x
of_registers Mulhsu x = inst.Mulhsu x
of_registers Mulhu x = inst.Mulhu x
of_registers Div x = inst.Div x
of_registers Divu x = inst.Divu x
of_registers Rem x = inst.Rem x
of_registers Remu x = inst.Remu x
of_registers Mulw x = inst.Mulw x
of_registers Divw x = inst.Divw x
of_registers Divuw x = inst.Divuw x
of_registers Remw x = inst.Remw x
of_registers Remuw x = inst.Remuw x

abbrev pub of_immediate : ImmediateOperation → IType → Inst
of_immediate Addi x = inst.Addi x
of_immediate Slti x = inst.Slti x
of_immediate Sltiu x = inst.Sltiu x
of_immediate Xori x = inst.Xori x
of_immediate Ori x = inst.Ori x
of_immediate Andi x = inst.Andi x
of_immediate Addiw x = inst.Addiw x

abbrev pub of_shift : ShiftOperation → ShiftOperands → Inst
of_shift Slli x = inst.Slli x
of_shift Srli x = inst.Srli x
of_shift Srai x = inst.Srai x
of_shift Slliw x = inst.Slliw x
of_shift Srliw x = inst.Srliw x
of_shift Sraiw x = inst.Sraiw x

abbrev pub of_upper : UpperOperation → UType → Inst
of_upper Lui x = inst.Lui x
of_upper Auipc x = inst.Auipc x

abbrev pub of_load : LoadOperation → IType → Inst
of_load Lb x = inst.Lb x
of_load Lh x = inst.Lh x
of_load Lw x = inst.Lw x
of_load Ld x = inst.Ld x
of_load Lbu x = inst.Lbu x
of_load Lhu x = inst.Lhu x
of_load Lwu x = inst.Lwu x

abbrev pub of_store : StoreOperation → SType → Inst
of_store Sb x = inst.Sb x
of_store Sh x = inst.Sh x
of_store Sw x = inst.Sw x
of_store Sd x = inst.Sd x

abbrev pub of_branch : BranchOperation → BType → Inst
of_branch Beq x = inst.Beq x
of_branch Bne x = inst.Bne x
of_branch Blt x = inst.Blt x
of_branch Bge x = inst.Bge x
of_branch Bltu x = inst.Bltu x
of_branch Bgeu x = inst.Bgeu x

-- by its width: eight bytes or four
abbrev pub of_reserve : Bool → Reserve → Inst
of_reserve false x = inst.LrW x
of_reserve true x = inst.LrD x

abbrev pub of_atomic : AtomicOperation → Bool → AtomicOperands → Inst
of_atomic Sc false x = inst.ScW x
of_atomic Sc true x = inst.ScD x
of_atomic Amoswap false x = inst.AmoswapW x
of_atomic Amoswap true x = inst.AmoswapD x
of_atomic Amoadd false x = inst.AmoaddW x
of_atomic Amoadd true x = inst.AmoaddD x
of_atomic Amoxor false x = inst.AmoxorW x
of_atomic Amoxor true x = inst.AmoxorD x
of_atomic Amoand false x = inst.AmoandW x
of_atomic Amoand true x = inst.AmoandD x
of_atomic Amoor false x = inst.AmoorW x
of_atomic Amoor true x = inst.AmoorD x
of_atomic Amomin false x = inst.AmominW x
of_atomic Amomin true x = inst.AmominD x
of_atomic Amomax false x = inst.AmomaxW x
of_atomic Amomax true x = inst.AmomaxD x
of_atomic Amominu false x = inst.AmominuW x
of_atomic Amominu true x = inst.AmominuD x
of_atomic Amomaxu false x = inst.AmomaxuW x
of_atomic Amomaxu true x = inst.AmomaxuD x

-- the bits of a set of accesses (ISA, 2.7)
abbrev pub access_bits : AccessSet → ℕ
access_bits s =
    8 * from_bool s.input + 4 * from_bool s.output + 2 * from_bool s.reads + from_bool s.writes

abbrev pub fence : ℕ → ℕ → ℕ → Inst
fence mode before after =
    inst.Fence (record { fm = mode; pred = before; succ = after; rs1 = 0; rd = 0 })

-- ---- the format of each instruction, with its operation

abbrev pub format_of : Inst → Format
format_of (inst.Lui x) = Upper Lui x
format_of (inst.Auipc x) = Upper Auipc x
format_of (inst.Jal x) = Jal x
format_of (inst.Jalr x) = Jalr x
format_of (inst.Beq x) = Branch Beq x
format_of (inst.Bne x) = Branch Bne x
format_of (inst.Blt x) = Branch Blt x
format_of (inst.Bge x) = Branch Bge x
format_of (inst.Bltu x) = Branch Bltu x
format_of (inst.Bgeu x) = Branch Bgeu x
format_of (inst.Lb x) = Load Lb x
format_of (inst.Lh x) = Load Lh x
format_of (inst.Lw x) = Load Lw x
format_of (inst.Ld x) = Load Ld x
format_of (inst.Lbu x) = Load Lbu x
format_of (inst.Lhu x) = Load Lhu x
format_of (inst.Lwu x) = Load Lwu x
format_of (inst.Sb x) = Store Sb x
format_of (inst.Sh x) = Store Sh x
format_of (inst.Sw x) = Store Sw x
format_of (inst.Sd x) = Store Sd x
format_of (inst.Addi x) = Immediate Addi x
format_of (inst.Slti x) = Immediate Slti x
format_of (inst.Sltiu x) = Immediate Sltiu x
format_of (inst.Xori x) = Immediate Xori x
format_of (inst.Ori x) = Immediate Ori x
format_of (inst.Andi x) = Immediate Andi x
format_of (inst.Slli x) = Shift Slli x
format_of (inst.Srli x) = Shift Srli x
format_of (inst.Srai x) = Shift Srai x
format_of (inst.Add x) = Registers Add x
format_of (inst.Sub x) = Registers Sub x
format_of (inst.Sll x) = Registers Sll x
format_of (inst.Slt x) = Registers Slt x
format_of (inst.Sltu x) = Registers Sltu x
format_of (inst.Xor x) = Registers Xor x
format_of (inst.Srl x) = Registers Srl x
format_of (inst.Sra x) = Registers Sra x
format_of (inst.Or x) = Registers Or x
format_of (inst.And x) = Registers And x
format_of (inst.Addiw x) = Immediate Addiw x
format_of (inst.Slliw x) = Shift Slliw x
format_of (inst.Srliw x) = Shift Srliw x
format_of (inst.Sraiw x) = Shift Sraiw x
format_of (inst.Addw x) = Registers Addw x
format_of (inst.Subw x) = Registers Subw x
format_of (inst.Sllw x) = Registers Sllw x
format_of (inst.Srlw x) = Registers Srlw x
format_of (inst.Sraw x) = Registers Sraw x
format_of (inst.Fence x) = Fence x
format_of inst.Ecall = Ecall
format_of inst.Ebreak = Ebreak
format_of (inst.Mul x) = Registers Mul x
format_of (inst.Mulh x) = Registers Mulh x
format_of (inst.Mulhsu x) = Registers Mulhsu x
format_of (inst.Mulhu x) = Registers Mulhu x
format_of (inst.Div x) = Registers Div x
format_of (inst.Divu x) = Registers Divu x
format_of (inst.Rem x) = Registers Rem x
format_of (inst.Remu x) = Registers Remu x
format_of (inst.Mulw x) = Registers Mulw x
format_of (inst.Divw x) = Registers Divw x
format_of (inst.Divuw x) = Registers Divuw x
format_of (inst.Remw x) = Registers Remw x
format_of (inst.Remuw x) = Registers Remuw x
format_of (inst.LrW x) = LoadReserved false x
format_of (inst.ScW x) = Atomic Sc false x
format_of (inst.AmoswapW x) = Atomic Amoswap false x
format_of (inst.AmoaddW x) = Atomic Amoadd false x
format_of (inst.AmoxorW x) = Atomic Amoxor false x
format_of (inst.AmoandW x) = Atomic Amoand false x
format_of (inst.AmoorW x) = Atomic Amoor false x
format_of (inst.AmominW x) = Atomic Amomin false x
format_of (inst.AmomaxW x) = Atomic Amomax false x
format_of (inst.AmominuW x) = Atomic Amominu false x
format_of (inst.AmomaxuW x) = Atomic Amomaxu false x
format_of (inst.LrD x) = LoadReserved true x
format_of (inst.ScD x) = Atomic Sc true x
format_of (inst.AmoswapD x) = Atomic Amoswap true x
format_of (inst.AmoaddD x) = Atomic Amoadd true x
format_of (inst.AmoxorD x) = Atomic Amoxor true x
format_of (inst.AmoandD x) = Atomic Amoand true x
format_of (inst.AmoorD x) = Atomic Amoor true x
format_of (inst.AmominD x) = Atomic Amomin true x
format_of (inst.AmomaxD x) = Atomic Amomax true x
format_of (inst.AmominuD x) = Atomic Amominu true x
format_of (inst.AmomaxuD x) = Atomic Amomaxu true x

-- the instruction of a format with its operation and its operands
abbrev pub instruction_of : Format → Inst
instruction_of (Registers operation x) = of_registers operation x
instruction_of (Immediate operation x) = of_immediate operation x
instruction_of (Shift operation x) = of_shift operation x
instruction_of (Upper operation x) = of_upper operation x
instruction_of (Load operation x) = of_load operation x
instruction_of (Store operation x) = of_store operation x
instruction_of (Branch operation x) = of_branch operation x
instruction_of (Jal x) = inst.Jal x
instruction_of (Jalr x) = inst.Jalr x
instruction_of (LoadReserved double x) = of_reserve double x
instruction_of (Atomic operation double x) = of_atomic operation double x
instruction_of (Fence x) = inst.Fence x
instruction_of Ecall = inst.Ecall
instruction_of Ebreak = inst.Ebreak

-- ---- names

abbrev pub register_name : RegisterOperation → List ℕ
register_name Add = codes "add"
register_name Sub = codes "sub"
register_name Sll = codes "sll"
register_name Slt = codes "slt"
register_name Sltu = codes "sltu"
register_name Xor = codes "xor"
register_name Srl = codes "srl"
register_name Sra = codes "sra"
register_name Or = codes "or"
register_name And = codes "and"
register_name Addw = codes "addw"
register_name Subw = codes "subw"
register_name Sllw = codes "sllw"
register_name Srlw = codes "srlw"
register_name Sraw = codes "sraw"
register_name Mul = codes "mul"
register_name Mulh = codes "mulh"
register_name Mulhsu = codes "mulhsu"
register_name Mulhu = codes "mulhu"
register_name Div = codes "div"
register_name Divu = codes "divu"
register_name Rem = codes "rem"
register_name Remu = codes "remu"
register_name Mulw = codes "mulw"
register_name Divw = codes "divw"
register_name Divuw = codes "divuw"
register_name Remw = codes "remw"
register_name Remuw = codes "remuw"

abbrev pub immediate_name : ImmediateOperation → List ℕ
immediate_name Addi = codes "addi"
immediate_name Slti = codes "slti"
immediate_name Sltiu = codes "sltiu"
immediate_name Xori = codes "xori"
immediate_name Ori = codes "ori"
immediate_name Andi = codes "andi"
immediate_name Addiw = codes "addiw"

abbrev pub shift_name : ShiftOperation → List ℕ
shift_name Slli = codes "slli"
shift_name Srli = codes "srli"
shift_name Srai = codes "srai"
shift_name Slliw = codes "slliw"
shift_name Srliw = codes "srliw"
shift_name Sraiw = codes "sraiw"

abbrev pub upper_name : UpperOperation → List ℕ
upper_name Lui = codes "lui"
upper_name Auipc = codes "auipc"

abbrev pub load_name : LoadOperation → List ℕ
load_name Lb = codes "lb"
load_name Lh = codes "lh"
load_name Lw = codes "lw"
load_name Ld = codes "ld"
load_name Lbu = codes "lbu"
load_name Lhu = codes "lhu"
load_name Lwu = codes "lwu"

abbrev pub store_name : StoreOperation → List ℕ
store_name Sb = codes "sb"
store_name Sh = codes "sh"
store_name Sw = codes "sw"
store_name Sd = codes "sd"

-- the bytes of what they move (section 2.6, and 5.3)
abbrev pub load_width : LoadOperation → ℕ
load_width Lb = 1
load_width Lh = 2
load_width Lw = 4
load_width Ld = 8
load_width Lbu = 1
load_width Lhu = 2
load_width Lwu = 4

abbrev pub store_width : StoreOperation → ℕ
store_width Sb = 1
store_width Sh = 2
store_width Sw = 4
store_width Sd = 8

abbrev pub branch_name : BranchOperation → List ℕ
branch_name Beq = codes "beq"
branch_name Bne = codes "bne"
branch_name Blt = codes "blt"
branch_name Bge = codes "bge"
branch_name Bltu = codes "bltu"
branch_name Bgeu = codes "bgeu"

-- with its width; the ordering bits are no part of it
abbrev pub atomic_name : AtomicOperation → Bool → List ℕ
atomic_name Sc false = codes "sc.w"
atomic_name Sc true = codes "sc.d"
atomic_name Amoswap false = codes "amoswap.w"
atomic_name Amoswap true = codes "amoswap.d"
atomic_name Amoadd false = codes "amoadd.w"
atomic_name Amoadd true = codes "amoadd.d"
atomic_name Amoxor false = codes "amoxor.w"
atomic_name Amoxor true = codes "amoxor.d"
atomic_name Amoand false = codes "amoand.w"
atomic_name Amoand true = codes "amoand.d"
atomic_name Amoor false = codes "amoor.w"
atomic_name Amoor true = codes "amoor.d"
atomic_name Amomin false = codes "amomin.w"
atomic_name Amomin true = codes "amomin.d"
atomic_name Amomax false = codes "amomax.w"
atomic_name Amomax true = codes "amomax.d"
atomic_name Amominu false = codes "amominu.w"
atomic_name Amominu true = codes "amominu.d"
atomic_name Amomaxu false = codes "amomaxu.w"
atomic_name Amomaxu true = codes "amomaxu.d"
