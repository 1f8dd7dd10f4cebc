-- The word of each instruction of RV64IMA: a table of formats and selectors, and one sum of fields
-- a format (RISC-V Unprivileged ISA 20191213, section 2.2 for the formats and chapter 24 for the
-- table).

use Rattle.std.specs.Prelude.{◌≡◌, ℕ, suc, ◌+◌, ◌-◌, ◌*◌, ◌/◌, ◌%◌, ◌^◌, ℤ, pos, negsuc, ◌↔◌, Option, Some}
use Rattle.std.specs.Int.{from_bool}
use Rattle.rv_isa.specs.declared.instruction.RType.{RType}
use Rattle.rv_isa.specs.declared.instruction.IType.{IType}
use Rattle.rv_isa.specs.declared.instruction.Shift.{Shift}
use Rattle.rv_isa.specs.declared.instruction.SType.{SType}
use Rattle.rv_isa.specs.declared.instruction.BType.{BType}
use Rattle.rv_isa.specs.declared.instruction.UType.{UType}
use Rattle.rv_isa.specs.declared.instruction.JType.{JType}
use Rattle.rv_isa.specs.declared.instruction.Atomic.{Atomic}
use Rattle.rv_isa.specs.declared.instruction.Reserve.{Reserve}
use Rattle.rv_isa.specs.declared.instruction.Fence.{Fence as FenceOperands}
use Rattle.rv_isa.specs.declared.instruction.Inst.{Inst}
use Rattle.rv_isa.specs.declared.instruction.Inst.TheVariants.{
  Lui,
  Auipc,
  Jal,
  Jalr,
  Beq,
  Bne,
  Blt,
  Bge,
  Bltu,
  Bgeu,
  Lb,
  Lh,
  Lw,
  Ld,
  Lbu,
  Lhu,
  Lwu,
  Sb,
  Sh,
  Sw,
  Sd,
  Addi,
  Slti,
  Sltiu,
  Xori,
  Ori,
  Andi,
  Slli,
  Srli,
  Srai,
  Add,
  Sub,
  Sll,
  Slt,
  Sltu,
  Xor,
  Srl,
  Sra,
  Or,
  And,
  Addiw,
  Slliw,
  Srliw,
  Sraiw,
  Addw,
  Subw,
  Sllw,
  Srlw,
  Sraw,
  Fence,
  Ecall,
  Ebreak,
  Mul,
  Mulh,
  Mulhsu,
  Mulhu,
  Div,
  Divu,
  Rem,
  Remu,
  Mulw,
  Divw,
  Divuw,
  Remw,
  Remuw,
  LrW,
  ScW,
  AmoswapW,
  AmoaddW,
  AmoxorW,
  AmoandW,
  AmoorW,
  AmominW,
  AmomaxW,
  AmominuW,
  AmomaxuW,
  LrD,
  ScD,
  AmoswapD,
  AmoaddD,
  AmoxorD,
  AmoandD,
  AmoorD,
  AmominD,
  AmomaxD,
  AmominuD,
  AmomaxuD,
}
use Rattle.rv_isa.specs.Ranges.{IsValid}

-- a format with its selectors and operands
pub data Form : Type 0 where
  -- R-type
  Register : (opcode funct3 funct7 : ℕ) (x : RType) → Form
  -- I-type; a shift's upper immediate bits select as well
  Immediate : (opcode funct3 : ℕ) (x : IType) → Form
  ShiftBy : (opcode funct3 funct6 : ℕ) (x : Shift) → Form
  WordShift : (opcode funct3 funct7 : ℕ) (x : Shift) → Form
  -- S-type, B-type, U-type, J-type
  Store : (opcode funct3 : ℕ) (x : SType) → Form
  Branch : (opcode funct3 : ℕ) (x : BType) → Form
  Upper : (opcode : ℕ) (x : UType) → Form
  Jump : (opcode : ℕ) (x : JType) → Form
  -- the R-type of the A extension
  Memory : (opcode funct3 funct5 : ℕ) (x : Atomic) → Form
  LoadReserved : (opcode funct3 funct5 : ℕ) (x : Reserve) → Form
  -- FENCE, and the words without operands
  Ordering : (opcode funct3 : ℕ) (x : FenceOperands) → Form
  Whole : (bits : ℕ) → Form

-- the table of chapter 24
abbrev pub form : Inst → Form
form (Lui x) = Upper 0x37 x
form (Auipc x) = Upper 0x17 x
form (Jal x) = Jump 0x6f x
form (Jalr x) = Immediate 0x67 0 x
form (Beq x) = Branch 0x63 0 x
form (Bne x) = Branch 0x63 1 x
form (Blt x) = Branch 0x63 4 x
form (Bge x) = Branch 0x63 5 x
form (Bltu x) = Branch 0x63 6 x
form (Bgeu x) = Branch 0x63 7 x
form (Lb x) = Immediate 0x03 0 x
form (Lh x) = Immediate 0x03 1 x
form (Lw x) = Immediate 0x03 2 x
form (Ld x) = Immediate 0x03 3 x
form (Lbu x) = Immediate 0x03 4 x
form (Lhu x) = Immediate 0x03 5 x
form (Lwu x) = Immediate 0x03 6 x
form (Sb x) = Store 0x23 0 x
form (Sh x) = Store 0x23 1 x
form (Sw x) = Store 0x23 2 x
form (Sd x) = Store 0x23 3 x
form (Addi x) = Immediate 0x13 0 x
form (Slti x) = Immediate 0x13 2 x
form (Sltiu x) = Immediate 0x13 3 x
form (Xori x) = Immediate 0x13 4 x
form (Ori x) = Immediate 0x13 6 x
form (Andi x) = Immediate 0x13 7 x
form (Slli x) = ShiftBy 0x13 1 0x00 x
form (Srli x) = ShiftBy 0x13 5 0x00 x
form (Srai x) = ShiftBy 0x13 5 0x10 x
form (Add x) = Register 0x33 0 0x00 x
form (Sub x) = Register 0x33 0 0x20 x
form (Sll x) = Register 0x33 1 0x00 x
form (Slt x) = Register 0x33 2 0x00 x
form (Sltu x) = Register 0x33 3 0x00 x
form (Xor x) = Register 0x33 4 0x00 x
form (Srl x) = Register 0x33 5 0x00 x
form (Sra x) = Register 0x33 5 0x20 x
form (Or x) = Register 0x33 6 0x00 x
form (And x) = Register 0x33 7 0x00 x
form (Addiw x) = Immediate 0x1b 0 x
form (Slliw x) = WordShift 0x1b 1 0x00 x
form (Srliw x) = WordShift 0x1b 5 0x00 x
form (Sraiw x) = WordShift 0x1b 5 0x20 x
form (Addw x) = Register 0x3b 0 0x00 x
form (Subw x) = Register 0x3b 0 0x20 x
form (Sllw x) = Register 0x3b 1 0x00 x
form (Srlw x) = Register 0x3b 5 0x00 x
form (Sraw x) = Register 0x3b 5 0x20 x
form (Fence x) = Ordering 0x0f 0 x
form Ecall = Whole 0x00000073
form Ebreak = Whole 0x00100073
form (Mul x) = Register 0x33 0 0x01 x
form (Mulh x) = Register 0x33 1 0x01 x
form (Mulhsu x) = Register 0x33 2 0x01 x
form (Mulhu x) = Register 0x33 3 0x01 x
form (Div x) = Register 0x33 4 0x01 x
form (Divu x) = Register 0x33 5 0x01 x
form (Rem x) = Register 0x33 6 0x01 x
form (Remu x) = Register 0x33 7 0x01 x
form (Mulw x) = Register 0x3b 0 0x01 x
form (Divw x) = Register 0x3b 4 0x01 x
form (Divuw x) = Register 0x3b 5 0x01 x
form (Remw x) = Register 0x3b 6 0x01 x
form (Remuw x) = Register 0x3b 7 0x01 x
form (LrW x) = LoadReserved 0x2f 2 0x02 x
form (ScW x) = Memory 0x2f 2 0x03 x
form (AmoswapW x) = Memory 0x2f 2 0x01 x
form (AmoaddW x) = Memory 0x2f 2 0x00 x
form (AmoxorW x) = Memory 0x2f 2 0x04 x
form (AmoandW x) = Memory 0x2f 2 0x0c x
form (AmoorW x) = Memory 0x2f 2 0x08 x
form (AmominW x) = Memory 0x2f 2 0x10 x
form (AmomaxW x) = Memory 0x2f 2 0x14 x
form (AmominuW x) = Memory 0x2f 2 0x18 x
form (AmomaxuW x) = Memory 0x2f 2 0x1c x
form (LrD x) = LoadReserved 0x2f 3 0x02 x
form (ScD x) = Memory 0x2f 3 0x03 x
form (AmoswapD x) = Memory 0x2f 3 0x01 x
form (AmoaddD x) = Memory 0x2f 3 0x00 x
form (AmoxorD x) = Memory 0x2f 3 0x04 x
form (AmoandD x) = Memory 0x2f 3 0x0c x
form (AmoorD x) = Memory 0x2f 3 0x08 x
form (AmominD x) = Memory 0x2f 3 0x10 x
form (AmomaxD x) = Memory 0x2f 3 0x14 x
form (AmominuD x) = Memory 0x2f 3 0x18 x
form (AmomaxuD x) = Memory 0x2f 3 0x1c x

-- a number in two's complement of `bits` bits
abbrev pub field : ℕ → ℤ → ℕ
field bits (pos n) = n
field bits (negsuc n) = 2 ^ bits - suc n

-- the word: each field times the power of two of its lowest bit
abbrev pub word : Form → ℕ
word (Register opcode funct3 funct7 x) =
    opcode + x.rd * 2 ^ 7 + funct3 * 2 ^ 12 + x.rs1 * 2 ^ 15 + x.rs2 * 2 ^ 20 + funct7 * 2 ^ 25
word (Immediate opcode funct3 x) =
    opcode + x.rd * 2 ^ 7 + funct3 * 2 ^ 12 + x.rs1 * 2 ^ 15 + field 12 x.immediate * 2 ^ 20
word (ShiftBy opcode funct3 funct6 x) =
    opcode + x.rd * 2 ^ 7 + funct3 * 2 ^ 12 + x.rs1 * 2 ^ 15 + x.amount * 2 ^ 20 + funct6 * 2 ^ 26
word (WordShift opcode funct3 funct7 x) =
    opcode + x.rd * 2 ^ 7 + funct3 * 2 ^ 12 + x.rs1 * 2 ^ 15 + x.amount * 2 ^ 20 + funct7 * 2 ^ 25
word (Store opcode funct3 x) =
    let immediate = field 12 x.immediate in
    opcode + immediate % 2 ^ 5 * 2 ^ 7 + funct3 * 2 ^ 12 + x.rs1 * 2 ^ 15 + x.rs2 * 2 ^ 20
    + immediate / 2 ^ 5 * 2 ^ 25
word (Branch opcode funct3 x) =
    let offset = field 13 x.offset in
    opcode + offset / 2 ^ 11 % 2 * 2 ^ 7 + offset / 2 % 2 ^ 4 * 2 ^ 8 + funct3 * 2 ^ 12
    + x.rs1 * 2 ^ 15 + x.rs2 * 2 ^ 20 + offset / 2 ^ 5 % 2 ^ 6 * 2 ^ 25 + offset / 2 ^ 12 * 2 ^ 31
word (Upper opcode x) = opcode + x.rd * 2 ^ 7 + x.immediate * 2 ^ 12
word (Jump opcode x) =
    let offset = field 21 x.offset in
    opcode + x.rd * 2 ^ 7 + offset / 2 ^ 12 % 2 ^ 8 * 2 ^ 12 + offset / 2 ^ 11 % 2 * 2 ^ 20
    + offset / 2 % 2 ^ 10 * 2 ^ 21 + offset / 2 ^ 20 * 2 ^ 31
word (Memory opcode funct3 funct5 x) =
    opcode + x.rd * 2 ^ 7 + funct3 * 2 ^ 12 + x.rs1 * 2 ^ 15 + x.rs2 * 2 ^ 20
    + from_bool x.release * 2 ^ 25 + from_bool x.acquire * 2 ^ 26 + funct5 * 2 ^ 27
word (LoadReserved opcode funct3 funct5 x) =
    opcode + x.rd * 2 ^ 7 + funct3 * 2 ^ 12 + x.rs1 * 2 ^ 15
    + from_bool x.release * 2 ^ 25 + from_bool x.acquire * 2 ^ 26 + funct5 * 2 ^ 27
word (Ordering opcode funct3 x) =
    opcode + x.rd * 2 ^ 7 + funct3 * 2 ^ 12 + x.rs1 * 2 ^ 15
    + x.succ * 2 ^ 20 + x.pred * 2 ^ 24 + x.fm * 2 ^ 28
word (Whole bits) = bits

-- the word spells the instruction: its operands are in range, and the fields sum to the word
pub record Spells (w : ℕ) (i : Inst) : Type 0 where
  pub valid : IsValid i
  pub sum : word (form i) ≡ w

-- what a word spells: this instruction and no other, or none
abbrev pub IsSpelled : Option Inst → ℕ → Type 0
IsSpelled found w = (i : Inst) → found ≡ Some i ↔ Spells w i

-- answers for every word what it spells
abbrev pub IsReader : (ℕ → Option Inst) → Type 0
IsReader read = (w : ℕ) → IsSpelled (read w) w
