-- The 16-bit parcels of RV64C beside RV64IMA: RISC-V Unprivileged ISA 20191213, chapter 16.

use Rattle.std.specs.Prelude.{◌≡◌, ◌≢◌, ℕ, ◌+◌, ◌*◌, ◌/◌, ◌%◌, ◌^◌, ◌<◌, ◌≤◌, ℤ, pos, negsuc, ◌≤ℤ◌, unsigned_abs, Option, Some, ◌↔◌, ◌⊎◌}
use Rattle.rv_isa.specs.declared.instruction.Inst.{Inst}
use Rattle.rv_isa.specs.declared.instruction.Inst.TheVariants as isa
use Rattle.rv_isa.specs.Ranges.{IsReg}
use Rattle.rv_isa_laws.specs.Word.{field}
use Rattle.rv_parcel.specs.declared.form.Compressed.{Compressed}
use Rattle.rv_parcel.specs.declared.form.Compressed.TheVariants.{Addi4spn, Lw, Ld, Sw, Sd, Nop, Addi, Addiw, Li, Addi16sp, Lui, Srli, Srai, Andi, Sub, Xor, Or, And, Subw, Addw, J, Beqz, Bnez, Slli, Lwsp, Ldsp, Jr, Mv, Ebreak, Jalr, Add, Swsp, Sdsp}

-- `count` bits of `number` from bit `low` on, set down at bit `place`
abbrev pub bits_at : (number low count place : ℕ) → ℕ
bits_at number low count place = number / 2 ^ low % 2 ^ count * 2 ^ place

-- the quadrant in bits 1:0 and funct3 in bits 15:13 (table 16.1)
abbrev pub opcode : (quadrant funct3 : ℕ) → ℕ
opcode quadrant funct3 = quadrant + funct3 * 2 ^ 13

-- a parcel that has them
abbrev pub HasOpcode : (p quadrant funct3 : ℕ) → Type 0
HasOpcode p quadrant funct3 = (p < 2 ^ 16) × (p % 4 ≡ quadrant) × (p / 2 ^ 13 ≡ funct3)

-- a register at bits 11:7 or 6:2, and one of x8 to x15 at bits 9:7 or 4:2
abbrev pub at_7 : ℕ → ℕ
at_7 register = register * 2 ^ 7

abbrev pub at_2 : ℕ → ℕ
at_2 register = register * 2 ^ 2

abbrev pub short_7 : ℕ → ℕ
short_7 register = register % 8 * 2 ^ 7

abbrev pub short_2 : ℕ → ℕ
short_2 register = register % 8 * 2 ^ 2

-- the immediate fields, named by the bits that stand in them, as the manual's tables 16.5 to 16.7
-- draw them
-- uimm[5:3] at 12:10, uimm[2|6] at 6:5
abbrev pub word_offset : ℕ → ℕ
word_offset u = bits_at u 3 3 10 + bits_at u 2 1 6 + bits_at u 6 1 5

-- uimm[5:3] at 12:10, uimm[7:6] at 6:5
abbrev pub double_offset : ℕ → ℕ
double_offset u = bits_at u 3 3 10 + bits_at u 6 2 5

-- uimm[5] at 12, uimm[4:0] at 6:2
abbrev pub six : ℕ → ℕ
six u = bits_at u 5 1 12 + bits_at u 0 5 2

-- nzuimm[5:4|9:6|2|3] at 12:5
abbrev pub stack_address : ℕ → ℕ
stack_address u = bits_at u 4 2 11 + bits_at u 6 4 7 + bits_at u 2 1 6 + bits_at u 3 1 5

-- nzimm[9] at 12, nzimm[4|6|8:7|5] at 6:2
abbrev pub stack_step : ℕ → ℕ
stack_step u =
    bits_at u 9 1 12 + bits_at u 4 1 6 + bits_at u 6 1 5 + bits_at u 7 2 3 + bits_at u 5 1 2

-- imm[11|4|9:8|10|6|7|3:1|5] at 12:2
abbrev pub jump_offset : ℕ → ℕ
jump_offset u =
    bits_at u 11 1 12 + bits_at u 4 1 11 + bits_at u 8 2 9 + bits_at u 10 1 8
    + bits_at u 6 1 7 + bits_at u 7 1 6 + bits_at u 1 3 3 + bits_at u 5 1 2

-- imm[8|4:3] at 12:10, imm[7:6|2:1|5] at 6:2
abbrev pub branch_offset : ℕ → ℕ
branch_offset u =
    bits_at u 8 1 12 + bits_at u 3 2 10 + bits_at u 6 2 5 + bits_at u 1 2 3 + bits_at u 5 1 2

-- uimm[5] at 12, uimm[4:2|7:6] at 6:2
abbrev pub word_load : ℕ → ℕ
word_load u = bits_at u 5 1 12 + bits_at u 2 3 4 + bits_at u 6 2 2

-- uimm[5] at 12, uimm[4:3|8:6] at 6:2
abbrev pub double_load : ℕ → ℕ
double_load u = bits_at u 5 1 12 + bits_at u 3 2 5 + bits_at u 6 3 2

-- uimm[5:2|7:6] at 12:7
abbrev pub word_store : ℕ → ℕ
word_store u = bits_at u 2 4 9 + bits_at u 6 2 7

-- uimm[5:3|8:6] at 12:7
abbrev pub double_store : ℕ → ℕ
double_store u = bits_at u 3 3 10 + bits_at u 6 3 7

-- an arithmetic form (CA): funct6 100011 or 100111, funct2 at 6:5
abbrev pub arithmetic : (bit_12 funct2 rd rs2 : ℕ) → ℕ
arithmetic bit_12 funct2 rd rs2 =
    opcode 1 4 + bit_12 * 2 ^ 12 + 3 * 2 ^ 10 + short_7 rd + funct2 * 2 ^ 5 + short_2 rs2

-- the number whose bits a form's parcel has: tables 16.5 to 16.7, line by line
abbrev pub parcel : Compressed → ℕ
parcel (Addi4spn rd u) = opcode 0 0 + stack_address u + short_2 rd
parcel (Lw rd rs1 u) = opcode 0 2 + word_offset u + short_7 rs1 + short_2 rd
parcel (Ld rd rs1 u) = opcode 0 3 + double_offset u + short_7 rs1 + short_2 rd
parcel (Sw rs1 rs2 u) = opcode 0 6 + word_offset u + short_7 rs1 + short_2 rs2
parcel (Sd rs1 rs2 u) = opcode 0 7 + double_offset u + short_7 rs1 + short_2 rs2
parcel (Nop i) = opcode 1 0 + six (field 6 i)
parcel (Addi rd i) = opcode 1 0 + six (field 6 i) + at_7 rd
parcel (Addiw rd i) = opcode 1 1 + six (field 6 i) + at_7 rd
parcel (Li rd i) = opcode 1 2 + six (field 6 i) + at_7 rd
parcel (Addi16sp i) = opcode 1 3 + stack_step (field 10 i) + at_7 2
parcel (Lui rd u) = opcode 1 3 + six u + at_7 rd
parcel (Srli rd u) = opcode 1 4 + six u + short_7 rd
parcel (Srai rd u) = opcode 1 4 + 1 * 2 ^ 10 + six u + short_7 rd
parcel (Andi rd i) = opcode 1 4 + 2 * 2 ^ 10 + six (field 6 i) + short_7 rd
parcel (Sub rd rs2) = arithmetic 0 0 rd rs2
parcel (Xor rd rs2) = arithmetic 0 1 rd rs2
parcel (Or rd rs2) = arithmetic 0 2 rd rs2
parcel (And rd rs2) = arithmetic 0 3 rd rs2
parcel (Subw rd rs2) = arithmetic 1 0 rd rs2
parcel (Addw rd rs2) = arithmetic 1 1 rd rs2
parcel (J i) = opcode 1 5 + jump_offset (field 12 i)
parcel (Beqz rs1 i) = opcode 1 6 + branch_offset (field 9 i) + short_7 rs1
parcel (Bnez rs1 i) = opcode 1 7 + branch_offset (field 9 i) + short_7 rs1
parcel (Slli rd u) = opcode 2 0 + six u + at_7 rd
parcel (Lwsp rd u) = opcode 2 2 + word_load u + at_7 rd
parcel (Ldsp rd u) = opcode 2 3 + double_load u + at_7 rd
parcel (Jr rs1) = opcode 2 4 + at_7 rs1
parcel (Mv rd rs2) = opcode 2 4 + at_7 rd + at_2 rs2
parcel Ebreak = opcode 2 4 + 1 * 2 ^ 12
parcel (Jalr rs1) = opcode 2 4 + 1 * 2 ^ 12 + at_7 rs1
parcel (Add rd rs2) = opcode 2 4 + 1 * 2 ^ 12 + at_7 rd + at_2 rs2
parcel (Swsp rs2 u) = opcode 2 6 + word_store u + at_2 rs2
parcel (Sdsp rs2 u) = opcode 2 7 + double_store u + at_2 rs2

-- x8 to x15
abbrev pub IsShort : ℕ → Type 0
IsShort register = (8 ≤ register) × (register < 16)

-- x1 to x31
abbrev pub IsNonzero : ℕ → Type 0
IsNonzero register = (0 < register) × IsReg register

-- below `limit`, and a multiple of `unit`
abbrev pub IsMultiple : (unit limit number : ℕ) → Type 0
IsMultiple unit limit number = (number < limit) × (number % unit ≡ 0)

-- six bits with sign
abbrev pub IsSixBits : ℤ → Type 0
IsSixBits i = (negsuc 31 ≤ℤ i) × (i ≤ℤ pos 31)

-- even, and from -256 to 254
abbrev pub IsBranch : ℤ → Type 0
IsBranch i = (negsuc 255 ≤ℤ i) × (i ≤ℤ pos 255) × (unsigned_abs i % 2 ≡ 0)

-- even, and from -2048 to 2046
abbrev pub IsJump : ℤ → Type 0
IsJump i = (negsuc 2047 ≤ℤ i) × (i ≤ℤ pos 2047) × (unsigned_abs i % 2 ≡ 0)

-- a multiple of 16 from -512 to 496, not 0
abbrev pub IsStackStep : ℤ → Type 0
IsStackStep i = (negsuc 511 ≤ℤ i) × (i ≤ℤ pos 511) × (unsigned_abs i % 16 ≡ 0) × (i ≢ pos 0)

-- the upper 20 bits of six bits with sign, not 0
abbrev pub IsUpper : ℕ → Type 0
IsUpper u = ((0 < u) × (u < 0x20)) ⊎ ((0xfffe0 ≤ u) × (u < 0x100000))

-- the operands that a form may have
abbrev pub IsLine : Compressed → Type 0
IsLine (Addi4spn rd u) = IsShort rd × IsMultiple 4 1024 u × (0 < u)
IsLine (Lw rd rs1 u) = IsShort rd × IsShort rs1 × IsMultiple 4 128 u
IsLine (Ld rd rs1 u) = IsShort rd × IsShort rs1 × IsMultiple 8 256 u
IsLine (Sw rs1 rs2 u) = IsShort rs1 × IsShort rs2 × IsMultiple 4 128 u
IsLine (Sd rs1 rs2 u) = IsShort rs1 × IsShort rs2 × IsMultiple 8 256 u
IsLine (Nop i) = IsSixBits i
IsLine (Addi rd i) = IsNonzero rd × IsSixBits i
IsLine (Addiw rd i) = IsNonzero rd × IsSixBits i
IsLine (Li rd i) = IsReg rd × IsSixBits i
IsLine (Addi16sp i) = IsStackStep i
IsLine (Lui rd u) = IsReg rd × (rd ≢ 2) × IsUpper u
IsLine (Srli rd u) = IsShort rd × (u < 64)
IsLine (Srai rd u) = IsShort rd × (u < 64)
IsLine (Andi rd i) = IsShort rd × IsSixBits i
IsLine (Sub rd rs2) = IsShort rd × IsShort rs2
IsLine (Xor rd rs2) = IsShort rd × IsShort rs2
IsLine (Or rd rs2) = IsShort rd × IsShort rs2
IsLine (And rd rs2) = IsShort rd × IsShort rs2
IsLine (Subw rd rs2) = IsShort rd × IsShort rs2
IsLine (Addw rd rs2) = IsShort rd × IsShort rs2
IsLine (J i) = IsJump i
IsLine (Beqz rs1 i) = IsShort rs1 × IsBranch i
IsLine (Bnez rs1 i) = IsShort rs1 × IsBranch i
IsLine (Slli rd u) = IsReg rd × (u < 64)
IsLine (Lwsp rd u) = IsNonzero rd × IsMultiple 4 256 u
IsLine (Ldsp rd u) = IsNonzero rd × IsMultiple 8 512 u
IsLine (Jr rs1) = IsNonzero rs1
IsLine (Mv rd rs2) = IsReg rd × IsNonzero rs2
IsLine Ebreak = Unit {0}
IsLine (Jalr rs1) = IsNonzero rs1
IsLine (Add rd rs2) = IsReg rd × IsNonzero rs2
IsLine (Swsp rs2 u) = IsReg rs2 × IsMultiple 4 256 u
IsLine (Sdsp rs2 u) = IsReg rs2 × IsMultiple 8 512 u

-- the instruction that a form stands for (sections 16.3 to 16.5)
abbrev pub expansion : Compressed → Inst
expansion (Addi4spn rd u) = isa.Addi record { rd = rd; rs1 = 2; immediate = pos u }
expansion (Lw rd rs1 u) = isa.Lw record { rd = rd; rs1 = rs1; immediate = pos u }
expansion (Ld rd rs1 u) = isa.Ld record { rd = rd; rs1 = rs1; immediate = pos u }
expansion (Sw rs1 rs2 u) = isa.Sw record { rs1 = rs1; rs2 = rs2; immediate = pos u }
expansion (Sd rs1 rs2 u) = isa.Sd record { rs1 = rs1; rs2 = rs2; immediate = pos u }
expansion (Nop i) = isa.Addi record { rd = 0; rs1 = 0; immediate = i }
expansion (Addi rd i) = isa.Addi record { rd = rd; rs1 = rd; immediate = i }
expansion (Addiw rd i) = isa.Addiw record { rd = rd; rs1 = rd; immediate = i }
expansion (Li rd i) = isa.Addi record { rd = rd; rs1 = 0; immediate = i }
expansion (Addi16sp i) = isa.Addi record { rd = 2; rs1 = 2; immediate = i }
expansion (Lui rd u) = isa.Lui record { rd = rd; immediate = u }
expansion (Srli rd u) = isa.Srli record { rd = rd; rs1 = rd; amount = u }
expansion (Srai rd u) = isa.Srai record { rd = rd; rs1 = rd; amount = u }
expansion (Andi rd i) = isa.Andi record { rd = rd; rs1 = rd; immediate = i }
expansion (Sub rd rs2) = isa.Sub record { rd = rd; rs1 = rd; rs2 = rs2 }
expansion (Xor rd rs2) = isa.Xor record { rd = rd; rs1 = rd; rs2 = rs2 }
expansion (Or rd rs2) = isa.Or record { rd = rd; rs1 = rd; rs2 = rs2 }
expansion (And rd rs2) = isa.And record { rd = rd; rs1 = rd; rs2 = rs2 }
expansion (Subw rd rs2) = isa.Subw record { rd = rd; rs1 = rd; rs2 = rs2 }
expansion (Addw rd rs2) = isa.Addw record { rd = rd; rs1 = rd; rs2 = rs2 }
expansion (J i) = isa.Jal record { rd = 0; offset = i }
expansion (Beqz rs1 i) = isa.Beq record { rs1 = rs1; rs2 = 0; offset = i }
expansion (Bnez rs1 i) = isa.Bne record { rs1 = rs1; rs2 = 0; offset = i }
expansion (Slli rd u) = isa.Slli record { rd = rd; rs1 = rd; amount = u }
expansion (Lwsp rd u) = isa.Lw record { rd = rd; rs1 = 2; immediate = pos u }
expansion (Ldsp rd u) = isa.Ld record { rd = rd; rs1 = 2; immediate = pos u }
expansion (Jr rs1) = isa.Jalr record { rd = 0; rs1 = rs1; immediate = pos 0 }
expansion (Mv rd rs2) = isa.Add record { rd = rd; rs1 = 0; rs2 = rs2 }
expansion Ebreak = isa.Ebreak
expansion (Jalr rs1) = isa.Jalr record { rd = 1; rs1 = rs1; immediate = pos 0 }
expansion (Add rd rs2) = isa.Add record { rd = rd; rs1 = rd; rs2 = rs2 }
expansion (Swsp rs2 u) = isa.Sw record { rs1 = 2; rs2 = rs2; immediate = pos u }
expansion (Sdsp rs2 u) = isa.Sd record { rs1 = 2; rs2 = rs2; immediate = pos u }

-- no HINT (section 16.7)
abbrev pub IsNoHint : Compressed → Type 0
IsNoHint (Nop i) = i ≡ pos 0
IsNoHint (Addi rd i) = i ≢ pos 0
IsNoHint (Li rd i) = 0 < rd
IsNoHint (Lui rd u) = 0 < rd
IsNoHint (Mv rd rs2) = 0 < rd
IsNoHint (Add rd rs2) = 0 < rd
IsNoHint (Slli rd u) = (0 < rd) × (0 < u)
IsNoHint (Srli rd u) = 0 < u
IsNoHint (Srai rd u) = 0 < u
IsNoHint _ = Unit {0}

-- what is chosen to stand for an instruction: no HINT, and c.addi before c.addi16sp
abbrev pub IsChosen : Compressed → Type 0
IsChosen (Addi16sp i) = IsSixBits i → ⊥
IsChosen form = IsNoHint form

-- a parcel spells a form with its operands
pub record SpellsForm (p : ℕ) (form : Compressed) : Type 0 where
  pub line : IsLine form
  pub sum : parcel form ≡ p

-- a parcel stands for an instruction, by the form that it spells
pub record StandsFor (p : ℕ) (i : Inst) : Type 0 where
  pub form : Compressed
  pub spells : SpellsForm p form
  pub same : expansion form ≡ i

-- the parcel that is chosen to stand for an instruction
pub record IsShortOf (i : Inst) (p : ℕ) : Type 0 where
  pub form : Compressed
  pub spells : SpellsForm p form
  pub chosen : IsChosen form
  pub same : expansion form ≡ i

-- what is found is the form that the parcel spells: none exactly where it spells none
abbrev pub IsRead : Option Compressed → ℕ → Type 0
IsRead found p = (form : Compressed) → found ≡ Some form ↔ SpellsForm p form

-- the same where there is one
abbrev pub IsForm : Compressed → ℕ → Type 0
IsForm found p = (form : Compressed) → found ≡ form ↔ SpellsForm p form

-- what is found is the form chosen for an instruction: none exactly where there is none
abbrev pub IsFormOf : Option Compressed → Inst → Type 0
IsFormOf found i =
    (form : Compressed) → found ≡ Some form ↔ (IsLine form × IsChosen form × (expansion form ≡ i))
