-- An exact reader of words: the instruction that a word's selectors name, kept where its fields sum back to the word.
use Rattle.std.proofs.Common.{◌≡◌, ℕ, suc, ◌+◌, ◌-◌, ◌*◌, ◌/◌, ◌%◌, ◌^◌, ◌<◌, ℤ, pos, negsuc, Bool, true, false, List, [], ◌∷◌, Option, Some, None, nat_eq, nat_lt, if◌then◌else◌, slice_index_or, refl, sym, ◌∙◌, ap, subst, arith, ◌↔◌, lit<, zero}
use Rattle.std.proofs.lemmas.Bool.{eq-eqb}
use Rattle.std.specs.Int.{from_bool}
use Rattle.rv_list_laws.proofs.TruthLemmas.{bit_below}
use Rattle.rv_isa.specs.declared.instruction.RType.{RType}
use Rattle.rv_isa.specs.declared.instruction.IType.{IType}
use Rattle.rv_isa.specs.declared.instruction.Shift.{Shift}
use Rattle.rv_isa.specs.declared.instruction.SType.{SType}
use Rattle.rv_isa.specs.declared.instruction.BType.{BType}
use Rattle.rv_isa.specs.declared.instruction.UType.{UType}
use Rattle.rv_isa.specs.declared.instruction.JType.{JType}
use Rattle.rv_isa.specs.declared.instruction.Atomic.{Atomic}
use Rattle.rv_isa.specs.declared.instruction.Reserve.{Reserve}
use Rattle.rv_isa.specs.declared.instruction.Fence.{Fence as FenceOperands}
use Rattle.rv_isa.specs.declared.instruction.Inst.{Inst}
use Rattle.rv_isa.specs.declared.instruction.Inst.TheVariants.{
  Lui,
  Auipc,
  Jal,
  Jalr,
  Beq,
  Bne,
  Blt,
  Bge,
  Bltu,
  Bgeu,
  Lb,
  Lh,
  Lw,
  Ld,
  Lbu,
  Lhu,
  Lwu,
  Sb,
  Sh,
  Sw,
  Sd,
  Addi,
  Slti,
  Sltiu,
  Xori,
  Ori,
  Andi,
  Slli,
  Srli,
  Srai,
  Add,
  Sub,
  Sll,
  Slt,
  Sltu,
  Xor,
  Srl,
  Sra,
  Or,
  And,
  Addiw,
  Slliw,
  Srliw,
  Sraiw,
  Addw,
  Subw,
  Sllw,
  Srlw,
  Sraw,
  Fence,
  Ecall,
  Ebreak,
  Mul,
  Mulh,
  Mulhsu,
  Mulhu,
  Div,
  Divu,
  Rem,
  Remu,
  Mulw,
  Divw,
  Divuw,
  Remw,
  Remuw,
  LrW,
  ScW,
  AmoswapW,
  AmoaddW,
  AmoxorW,
  AmoandW,
  AmoorW,
  AmominW,
  AmomaxW,
  AmominuW,
  AmomaxuW,
  LrD,
  ScD,
  AmoswapD,
  AmoaddD,
  AmoxorD,
  AmoandD,
  AmoorD,
  AmominD,
  AmomaxD,
  AmominuD,
  AmomaxuD,
}
use Rattle.rv_isa.specs.Ranges.{IsSigned12, IsBranchOffset, IsJumpOffset, IsRType, IsIType, IsShift, IsWordShift, IsSType, IsBType, IsUType, IsJType, IsAtomic, IsReserve, IsFence, IsValid}
use Rattle.rv_isa_laws.specs.Word.{Register, Immediate, ShiftBy, WordShift, Store, Branch, Upper, Jump, Memory, LoadReserved, Ordering, form, field, word, Spells}

-- the number of so many bits as two's complement
abbrev signed : ℕ → ℕ → ℤ
signed half n = if nat_lt n half then pos n else negsuc (half + half - 1 - n)

abbrev rd_of : ℕ → ℕ
rd_of w = w / 2 ^ 7 % 32

abbrev rs1_of : ℕ → ℕ
rs1_of w = w / 2 ^ 15 % 32

abbrev rs2_of : ℕ → ℕ
rs2_of w = w / 2 ^ 20 % 32

abbrev bit_of : ℕ → ℕ → Bool
bit_of w place = nat_eq (w / 2 ^ place % 2) 1

abbrev register_of : ℕ → RType
register_of w = record { rd = rd_of w; rs1 = rs1_of w; rs2 = rs2_of w }

abbrev immediate_of : ℕ → IType
immediate_of w = record { immediate = signed 2048 (w / 2 ^ 20 % 2 ^ 12); rd = rd_of w; rs1 = rs1_of w }

abbrev shift_of : ℕ → Shift
shift_of w = record { rd = rd_of w; rs1 = rs1_of w; amount = w / 2 ^ 20 % 64 }

abbrev word_shift_of : ℕ → Shift
word_shift_of w = record { rd = rd_of w; rs1 = rs1_of w; amount = w / 2 ^ 20 % 32 }

abbrev store_of : ℕ → SType
store_of w = record { immediate = signed 2048 (w / 2 ^ 7 % 2 ^ 5 + w / 2 ^ 25 % 2 ^ 7 * 2 ^ 5); rs1 = rs1_of w; rs2 = rs2_of w }

abbrev branch_offset_of : ℕ → ℕ
branch_offset_of w = w / 2 ^ 8 % 2 ^ 4 * 2 + w / 2 ^ 25 % 2 ^ 6 * 2 ^ 5 + w / 2 ^ 7 % 2 * 2 ^ 11 + w / 2 ^ 31 % 2 * 2 ^ 12

abbrev branch_of : ℕ → BType
branch_of w = record { offset = signed 4096 (branch_offset_of w); rs1 = rs1_of w; rs2 = rs2_of w }

abbrev upper_of : ℕ → UType
upper_of w = record { immediate = w / 2 ^ 12 % 2 ^ 20; rd = rd_of w }

abbrev jump_offset_of : ℕ → ℕ
jump_offset_of w = w / 2 ^ 21 % 2 ^ 10 * 2 + w / 2 ^ 20 % 2 * 2 ^ 11 + w / 2 ^ 12 % 2 ^ 8 * 2 ^ 12 + w / 2 ^ 31 % 2 * 2 ^ 20

abbrev jump_of : ℕ → JType
jump_of w = record { offset = signed 1048576 (jump_offset_of w); rd = rd_of w }

abbrev memory_of : ℕ → Atomic
memory_of w = record { rd = rd_of w; rs1 = rs1_of w; rs2 = rs2_of w; acquire = bit_of w 26; release = bit_of w 25 }

abbrev reserve_of : ℕ → Reserve
reserve_of w = record { rd = rd_of w; rs1 = rs1_of w; acquire = bit_of w 26; release = bit_of w 25 }

abbrev ordering_of : ℕ → FenceOperands
ordering_of w = record { fm = w / 2 ^ 28 % 16; pred = w / 2 ^ 24 % 16; succ = w / 2 ^ 20 % 16; rs1 = rs1_of w; rd = rd_of w }

-- the row of a table, where there is one
abbrev row : ℕ → List (Option Inst) → Option Inst
row n rows = slice_index_or rows n None

-- the tables, one an opcode or an opcode with its further selector
abbrev load_rows : (funct6 funct7 w : ℕ) → List (Option Inst)
load_rows funct6 funct7 w = Some (Lb (immediate_of w)) ∷ Some (Lh (immediate_of w)) ∷ Some (Lw (immediate_of w)) ∷ Some (Ld (immediate_of w)) ∷ Some (Lbu (immediate_of w)) ∷ Some (Lhu (immediate_of w)) ∷ Some (Lwu (immediate_of w)) ∷ []

abbrev store_rows : (funct6 funct7 w : ℕ) → List (Option Inst)
store_rows funct6 funct7 w = Some (Sb (store_of w)) ∷ Some (Sh (store_of w)) ∷ Some (Sw (store_of w)) ∷ Some (Sd (store_of w)) ∷ []

abbrev branch_rows : (funct6 funct7 w : ℕ) → List (Option Inst)
branch_rows funct6 funct7 w = Some (Beq (branch_of w)) ∷ Some (Bne (branch_of w)) ∷ None ∷ None ∷ Some (Blt (branch_of w)) ∷ Some (Bge (branch_of w)) ∷ Some (Bltu (branch_of w)) ∷ Some (Bgeu (branch_of w)) ∷ []

abbrev constant_rows : (funct6 funct7 w : ℕ) → List (Option Inst)
constant_rows funct6 funct7 w = Some (Addi (immediate_of w)) ∷ (if nat_eq funct6 0x00 then Some (Slli (shift_of w)) else None) ∷ Some (Slti (immediate_of w)) ∷ Some (Sltiu (immediate_of w)) ∷ Some (Xori (immediate_of w)) ∷ (if nat_eq funct6 0x00 then Some (Srli (shift_of w)) else (if nat_eq funct6 0x10 then Some (Srai (shift_of w)) else None)) ∷ Some (Ori (immediate_of w)) ∷ Some (Andi (immediate_of w)) ∷ []

abbrev word_constant_rows : (funct6 funct7 w : ℕ) → List (Option Inst)
word_constant_rows funct6 funct7 w = Some (Addiw (immediate_of w)) ∷ (if nat_eq funct7 0x00 then Some (Slliw (word_shift_of w)) else None) ∷ None ∷ None ∷ None ∷ (if nat_eq funct7 0x00 then Some (Srliw (word_shift_of w)) else (if nat_eq funct7 0x20 then Some (Sraiw (word_shift_of w)) else None)) ∷ []

abbrev plain_rows : (funct6 funct7 w : ℕ) → List (Option Inst)
plain_rows funct6 funct7 w = Some (Add (register_of w)) ∷ Some (Sll (register_of w)) ∷ Some (Slt (register_of w)) ∷ Some (Sltu (register_of w)) ∷ Some (Xor (register_of w)) ∷ Some (Srl (register_of w)) ∷ Some (Or (register_of w)) ∷ Some (And (register_of w)) ∷ []

abbrev product_rows : (funct6 funct7 w : ℕ) → List (Option Inst)
product_rows funct6 funct7 w = Some (Mul (register_of w)) ∷ Some (Mulh (register_of w)) ∷ Some (Mulhsu (register_of w)) ∷ Some (Mulhu (register_of w)) ∷ Some (Div (register_of w)) ∷ Some (Divu (register_of w)) ∷ Some (Rem (register_of w)) ∷ Some (Remu (register_of w)) ∷ []

abbrev other_rows : (funct6 funct7 w : ℕ) → List (Option Inst)
other_rows funct6 funct7 w = Some (Sub (register_of w)) ∷ None ∷ None ∷ None ∷ None ∷ Some (Sra (register_of w)) ∷ []

abbrev word_plain_rows : (funct6 funct7 w : ℕ) → List (Option Inst)
word_plain_rows funct6 funct7 w = Some (Addw (register_of w)) ∷ Some (Sllw (register_of w)) ∷ None ∷ None ∷ None ∷ Some (Srlw (register_of w)) ∷ []

abbrev word_product_rows : (funct6 funct7 w : ℕ) → List (Option Inst)
word_product_rows funct6 funct7 w = Some (Mulw (register_of w)) ∷ None ∷ None ∷ None ∷ Some (Divw (register_of w)) ∷ Some (Divuw (register_of w)) ∷ Some (Remw (register_of w)) ∷ Some (Remuw (register_of w)) ∷ []

abbrev word_other_rows : (funct6 funct7 w : ℕ) → List (Option Inst)
word_other_rows funct6 funct7 w = Some (Subw (register_of w)) ∷ None ∷ None ∷ None ∷ None ∷ Some (Sraw (register_of w)) ∷ []

abbrev word_memory_rows : (funct6 funct7 w : ℕ) → List (Option Inst)
word_memory_rows funct6 funct7 w = Some (AmoaddW (memory_of w)) ∷ Some (AmoswapW (memory_of w)) ∷ Some (LrW (reserve_of w)) ∷ Some (ScW (memory_of w)) ∷ Some (AmoxorW (memory_of w)) ∷ None ∷ None ∷ None ∷ Some (AmoorW (memory_of w)) ∷ None ∷ None ∷ None ∷ Some (AmoandW (memory_of w)) ∷ None ∷ None ∷ None ∷ Some (AmominW (memory_of w)) ∷ None ∷ None ∷ None ∷ Some (AmomaxW (memory_of w)) ∷ None ∷ None ∷ None ∷ Some (AmominuW (memory_of w)) ∷ None ∷ None ∷ None ∷ Some (AmomaxuW (memory_of w)) ∷ []

abbrev double_memory_rows : (funct6 funct7 w : ℕ) → List (Option Inst)
double_memory_rows funct6 funct7 w = Some (AmoaddD (memory_of w)) ∷ Some (AmoswapD (memory_of w)) ∷ Some (LrD (reserve_of w)) ∷ Some (ScD (memory_of w)) ∷ Some (AmoxorD (memory_of w)) ∷ None ∷ None ∷ None ∷ Some (AmoorD (memory_of w)) ∷ None ∷ None ∷ None ∷ Some (AmoandD (memory_of w)) ∷ None ∷ None ∷ None ∷ Some (AmominD (memory_of w)) ∷ None ∷ None ∷ None ∷ Some (AmomaxD (memory_of w)) ∷ None ∷ None ∷ None ∷ Some (AmominuD (memory_of w)) ∷ None ∷ None ∷ None ∷ Some (AmomaxuD (memory_of w)) ∷ []

abbrev fence_rows : (funct6 funct7 w : ℕ) → List (Option Inst)
fence_rows funct6 funct7 w = Some (Fence (ordering_of w)) ∷ []

abbrev jalr_rows : (funct6 funct7 w : ℕ) → List (Option Inst)
jalr_rows funct6 funct7 w = Some (Jalr (immediate_of w)) ∷ []

-- the instruction that the selectors name, with the word's operands: one table an opcode
abbrev loads : (funct3 funct5 funct6 funct7 w : ℕ) → Option Inst
loads funct3 funct5 funct6 funct7 w = row funct3 (load_rows funct6 funct7 w)

abbrev stores : (funct3 funct5 funct6 funct7 w : ℕ) → Option Inst
stores funct3 funct5 funct6 funct7 w = row funct3 (store_rows funct6 funct7 w)

abbrev branches : (funct3 funct5 funct6 funct7 w : ℕ) → Option Inst
branches funct3 funct5 funct6 funct7 w = row funct3 (branch_rows funct6 funct7 w)

abbrev op_imm : (funct3 funct5 funct6 funct7 w : ℕ) → Option Inst
op_imm funct3 funct5 funct6 funct7 w = row funct3 (constant_rows funct6 funct7 w)

abbrev op_imm_32 : (funct3 funct5 funct6 funct7 w : ℕ) → Option Inst
op_imm_32 funct3 funct5 funct6 funct7 w = row funct3 (word_constant_rows funct6 funct7 w)

abbrev op : (funct3 funct5 funct6 funct7 w : ℕ) → Option Inst
op funct3 funct5 funct6 funct7 w = (if nat_eq funct7 0x00 then row funct3 (plain_rows funct6 funct7 w) else (if nat_eq funct7 0x01 then row funct3 (product_rows funct6 funct7 w) else (if nat_eq funct7 0x20 then row funct3 (other_rows funct6 funct7 w) else None)))

abbrev op_32 : (funct3 funct5 funct6 funct7 w : ℕ) → Option Inst
op_32 funct3 funct5 funct6 funct7 w = (if nat_eq funct7 0x00 then row funct3 (word_plain_rows funct6 funct7 w) else (if nat_eq funct7 0x01 then row funct3 (word_product_rows funct6 funct7 w) else (if nat_eq funct7 0x20 then row funct3 (word_other_rows funct6 funct7 w) else None)))

abbrev amo : (funct3 funct5 funct6 funct7 w : ℕ) → Option Inst
amo funct3 funct5 funct6 funct7 w = (if nat_eq funct3 2 then row funct5 (word_memory_rows funct6 funct7 w) else (if nat_eq funct3 3 then row funct5 (double_memory_rows funct6 funct7 w) else None))

unfoldable pub select : (opcode funct3 funct5 funct6 funct7 w : ℕ) → Option Inst
select opcode funct3 funct5 funct6 funct7 w =
    if nat_eq opcode 0x03 then loads funct3 funct5 funct6 funct7 w else (
    if nat_eq opcode 0x0f then row funct3 (fence_rows funct6 funct7 w) else (
    if nat_eq opcode 0x13 then op_imm funct3 funct5 funct6 funct7 w else (
    if nat_eq opcode 0x17 then Some (Auipc (upper_of w)) else (
    if nat_eq opcode 0x1b then op_imm_32 funct3 funct5 funct6 funct7 w else (
    if nat_eq opcode 0x23 then stores funct3 funct5 funct6 funct7 w else (
    if nat_eq opcode 0x2f then amo funct3 funct5 funct6 funct7 w else (
    if nat_eq opcode 0x33 then op funct3 funct5 funct6 funct7 w else (
    if nat_eq opcode 0x37 then Some (Lui (upper_of w)) else (
    if nat_eq opcode 0x3b then op_32 funct3 funct5 funct6 funct7 w else (
    if nat_eq opcode 0x63 then branches funct3 funct5 funct6 funct7 w else (
    if nat_eq opcode 0x67 then row funct3 (jalr_rows funct6 funct7 w) else (
    if nat_eq opcode 0x6f then Some (Jal (jump_of w)) else (
    if nat_eq opcode 0x73 then (if nat_eq (w / 2 ^ 20) 1 then Some Ebreak else Some Ecall) else (
    None))))))))))))))

abbrev selected : ℕ → Option Inst
selected w = select (w % 128) (w / 2 ^ 12 % 8) (w / 2 ^ 27) (w / 2 ^ 26) (w / 2 ^ 25) w

-- kept where the fields sum back to the word
abbrev kept : Option Inst → ℕ → Option Inst
kept None w = None
kept (Some i) w = if nat_eq (word (form i)) w then Some i else None

abbrev pub word_read : ℕ → Option Inst
word_read w = kept (selected w) w

-- a number of 12, 13 and 21 bits reads back from its field
signed-12 : (z : ℤ) → IsSigned12 z → (signed 2048 (field 12 z) ≡ z) × (field 12 z < 2 ^ 12)
signed-12 (pos n) r = let below : n < 2048 = grind arith in (grind arith, omega arith)
signed-12 (negsuc n) r = let below : n < 2048 = grind arith in (grind arith, omega arith)

signed-13 : (z : ℤ) → IsBranchOffset z → (signed 4096 (field 13 z) ≡ z) × (field 13 z < 2 ^ 13) × (field 13 z % 2 ≡ 0)
signed-13 (pos n) r = let below : n < 4096 = grind arith in (grind arith, omega arith, grind arith)
signed-13 (negsuc n) r = let below : n < 4096 = grind arith in (grind arith, omega arith, grind arith)

signed-21 : (z : ℤ) → IsJumpOffset z → (signed 1048576 (field 21 z) ≡ z) × (field 21 z < 2 ^ 21) × (field 21 z % 2 ≡ 0)
signed-21 (pos n) r = let below : n < 1048576 = grind arith in (grind arith, omega arith, grind arith)
signed-21 (negsuc n) r = let below : n < 1048576 = grind arith in (grind arith, omega arith, grind arith)

-- the fields of a word that is the sum of six
record Fields (w opcode rd funct3 rs1 rs2 funct7 : ℕ) : Type 0 where
  opcode_is : w % 128 ≡ opcode
  rd_is : w / 2 ^ 7 % 32 ≡ rd
  funct3_is : w / 2 ^ 12 % 8 ≡ funct3
  rs1_is : w / 2 ^ 15 % 32 ≡ rs1
  rs2_is : w / 2 ^ 20 % 32 ≡ rs2
  funct7_is : w / 2 ^ 25 ≡ funct7
  rest_is : w / 2 ^ 20 ≡ rs2 + funct7 * 32

fields : (w opcode rd funct3 rs1 rs2 funct7 : ℕ) → opcode < 128 → rd < 32 → funct3 < 8 → rs1 < 32 → rs2 < 32 →
    opcode + rd * 2 ^ 7 + funct3 * 2 ^ 12 + rs1 * 2 ^ 15 + rs2 * 2 ^ 20 + funct7 * 2 ^ 25 ≡ w → Fields w opcode rd funct3 rs1 rs2 funct7
fields w opcode rd funct3 rs1 rs2 funct7 a b c d f e =
    record { opcode_is = omega arith; rd_is = omega arith; funct3_is = omega arith; rs1_is = omega arith; rs2_is = omega arith; funct7_is = omega arith; rest_is = omega arith }

-- a word is selected by its opcode and further selectors
via : (opcode funct3 funct5 funct6 funct7 w : ℕ) (i j : Inst) → w % 128 ≡ opcode → w / 2 ^ 12 % 8 ≡ funct3 → w / 2 ^ 27 ≡ funct5 → w / 2 ^ 26 ≡ funct6 → w / 2 ^ 25 ≡ funct7 →
    select opcode funct3 funct5 funct6 funct7 w ≡ Some i → i ≡ j → selected w ≡ Some j
via opcode funct3 funct5 funct6 funct7 w i j a b c d e named same =
    simp (a, b, c, d, e) (named ∙ ap (λ k. Some k) same)

register-case : (opcode funct3 funct7 : ℕ) (x : RType) (make : RType → Inst) → opcode < 128 → funct3 < 8 → IsRType x →
    ((funct5 funct6 w : ℕ) → select opcode funct3 funct5 funct6 funct7 w ≡ Some (make (register_of w))) →
    (w : ℕ) → word (Register opcode funct3 funct7 x) ≡ w → selected w ≡ Some (make x)
register-case opcode funct3 funct7 x make a b v named w e =
    let f : Fields w opcode x.rd funct3 x.rs1 x.rs2 funct7 = fields w opcode x.rd funct3 x.rs1 x.rs2 funct7 a v.0 b v.1 v.2 e in
    let same : register_of w ≡ x = rw (f.rd_is, f.rs1_is, f.rs2_is) refl in
    via opcode funct3 (w / 2 ^ 27) (w / 2 ^ 26) funct7 w (make (register_of w)) (make x) f.opcode_is f.funct3_is refl refl f.funct7_is (named (w / 2 ^ 27) (w / 2 ^ 26) w) (ap make same)

immediate-case : (opcode funct3 : ℕ) (x : IType) (make : IType → Inst) → opcode < 128 → funct3 < 8 → IsIType x →
    ((funct5 funct6 funct7 w : ℕ) → select opcode funct3 funct5 funct6 funct7 w ≡ Some (make (immediate_of w))) →
    (w : ℕ) → word (Immediate opcode funct3 x) ≡ w → selected w ≡ Some (make x)
immediate-case opcode funct3 x make a b v named w e =
    let s : (signed 2048 (field 12 x.immediate) ≡ x.immediate) × (field 12 x.immediate < 2 ^ 12) = signed-12 x.immediate v.2 in
    let f : Fields w opcode x.rd funct3 x.rs1 (field 12 x.immediate % 32) (field 12 x.immediate / 32) = fields w opcode x.rd funct3 x.rs1 (field 12 x.immediate % 32) (field 12 x.immediate / 32) a v.0 b v.1 (omega arith) (omega arith) in
    let g : w / 2 ^ 20 % 2 ^ 12 ≡ field 12 x.immediate = omega (arith, f.rest_is, s.1) in
    let same : immediate_of w ≡ x = rw (f.rd_is, f.rs1_is, g, s.0) refl in
    via opcode funct3 (w / 2 ^ 27) (w / 2 ^ 26) (w / 2 ^ 25) w (make (immediate_of w)) (make x) f.opcode_is f.funct3_is refl refl refl (named (w / 2 ^ 27) (w / 2 ^ 26) (w / 2 ^ 25) w) (ap make same)

-- the fields below the upper twelve bits
record LowFields (w opcode rd funct3 rs1 rest : ℕ) : Type 0 where
  opcode_is : w % 128 ≡ opcode
  rd_is : w / 2 ^ 7 % 32 ≡ rd
  funct3_is : w / 2 ^ 12 % 8 ≡ funct3
  rs1_is : w / 2 ^ 15 % 32 ≡ rs1
  rest_is : w / 2 ^ 20 ≡ rest

low-fields : (w opcode rd funct3 rs1 rest : ℕ) → opcode < 128 → rd < 32 → funct3 < 8 → rs1 < 32 →
    opcode + rd * 2 ^ 7 + funct3 * 2 ^ 12 + rs1 * 2 ^ 15 + rest * 2 ^ 20 ≡ w → LowFields w opcode rd funct3 rs1 rest
low-fields w opcode rd funct3 rs1 rest a b c d e =
    record { opcode_is = omega arith; rd_is = omega arith; funct3_is = omega arith; rs1_is = omega arith; rest_is = omega arith }

shift-case : (opcode funct3 funct6 : ℕ) (x : Shift) (make : Shift → Inst) → opcode < 128 → funct3 < 8 → IsShift x →
    ((funct5 funct7 w : ℕ) → select opcode funct3 funct5 funct6 funct7 w ≡ Some (make (shift_of w))) →
    (w : ℕ) → word (ShiftBy opcode funct3 funct6 x) ≡ w → selected w ≡ Some (make x)
shift-case opcode funct3 funct6 x make a b v named w e =
    let f : LowFields w opcode x.rd funct3 x.rs1 (x.amount + funct6 * 64) = low-fields w opcode x.rd funct3 x.rs1 (x.amount + funct6 * 64) a v.0 b v.1 (omega arith) in
    let g : w / 2 ^ 20 % 64 ≡ x.amount = omega (arith, f.rest_is, v.2) in
    let h : w / 2 ^ 26 ≡ funct6 = omega (arith, f.rest_is, v.2) in
    let same : shift_of w ≡ x = rw (f.rd_is, f.rs1_is, g) refl in
    via opcode funct3 (w / 2 ^ 27) funct6 (w / 2 ^ 25) w (make (shift_of w)) (make x) f.opcode_is f.funct3_is refl h refl (named (w / 2 ^ 27) (w / 2 ^ 25) w) (ap make same)

word-shift-case : (opcode funct3 funct7 : ℕ) (x : Shift) (make : Shift → Inst) → opcode < 128 → funct3 < 8 → IsWordShift x →
    ((funct5 funct6 w : ℕ) → select opcode funct3 funct5 funct6 funct7 w ≡ Some (make (word_shift_of w))) →
    (w : ℕ) → word (WordShift opcode funct3 funct7 x) ≡ w → selected w ≡ Some (make x)
word-shift-case opcode funct3 funct7 x make a b v named w e =
    let f : Fields w opcode x.rd funct3 x.rs1 x.amount funct7 = fields w opcode x.rd funct3 x.rs1 x.amount funct7 a v.0 b v.1 v.2 e in
    let same : word_shift_of w ≡ x = rw (f.rd_is, f.rs1_is, f.rs2_is) refl in
    via opcode funct3 (w / 2 ^ 27) (w / 2 ^ 26) funct7 w (make (word_shift_of w)) (make x) f.opcode_is f.funct3_is refl refl f.funct7_is (named (w / 2 ^ 27) (w / 2 ^ 26) w) (ap make same)

store-case : (opcode funct3 : ℕ) (x : SType) (make : SType → Inst) → opcode < 128 → funct3 < 8 → IsSType x →
    ((funct5 funct6 funct7 w : ℕ) → select opcode funct3 funct5 funct6 funct7 w ≡ Some (make (store_of w))) →
    (w : ℕ) → word (Store opcode funct3 x) ≡ w → selected w ≡ Some (make x)
store-case opcode funct3 x make a b v named w e =
    let s : (signed 2048 (field 12 x.immediate) ≡ x.immediate) × (field 12 x.immediate < 2 ^ 12) = signed-12 x.immediate v.2 in
    let f : Fields w opcode (field 12 x.immediate % 32) funct3 x.rs1 x.rs2 (field 12 x.immediate / 32) = fields w opcode (field 12 x.immediate % 32) funct3 x.rs1 x.rs2 (field 12 x.immediate / 32) a (omega arith) b v.0 v.1 e in
    let g : w / 2 ^ 7 % 2 ^ 5 + w / 2 ^ 25 % 2 ^ 7 * 2 ^ 5 ≡ field 12 x.immediate = omega (arith, f.rd_is, f.funct7_is, s.1) in
    let same : store_of w ≡ x = rw (g, s.0, f.rs1_is, f.rs2_is) refl in
    via opcode funct3 (w / 2 ^ 27) (w / 2 ^ 26) (w / 2 ^ 25) w (make (store_of w)) (make x) f.opcode_is f.funct3_is refl refl refl (named (w / 2 ^ 27) (w / 2 ^ 26) (w / 2 ^ 25) w) (ap make same)

-- a branch's offset from its digits
branch-digits : (w o p q : ℕ) → o < 2 ^ 13 → o % 2 ≡ 0 → p ≡ o / 2 ^ 11 % 2 + o / 2 % 2 ^ 4 * 2 → q ≡ o / 2 ^ 5 % 2 ^ 6 + o / 2 ^ 12 * 2 ^ 6 →
    w / 2 ^ 7 % 32 ≡ p → w / 2 ^ 25 ≡ q → branch_offset_of w ≡ o
branch-digits w o p q below even e f g h =
    let a : w / 2 ^ 8 % 2 ^ 4 ≡ o / 2 % 2 ^ 4 = omega (arith, e, g) in
    let b : w / 2 ^ 7 % 2 ≡ o / 2 ^ 11 % 2 = omega (arith, e, g) in
    let c : w / 2 ^ 25 % 2 ^ 6 ≡ o / 2 ^ 5 % 2 ^ 6 = omega (arith, f, h) in
    let d : w / 2 ^ 31 % 2 ≡ o / 2 ^ 12 = omega (arith, f, h, below) in
    let k : o / 2 % 2 ^ 4 * 2 + o / 2 ^ 5 % 2 ^ 6 * 2 ^ 5 + o / 2 ^ 11 % 2 * 2 ^ 11 + o / 2 ^ 12 * 2 ^ 12 ≡ o = omega (arith, even, below) in
    rw (a, b, c, d) k

branch-case : (opcode funct3 : ℕ) (x : BType) (make : BType → Inst) → opcode < 128 → funct3 < 8 → IsBType x →
    ((funct5 funct6 funct7 w : ℕ) → select opcode funct3 funct5 funct6 funct7 w ≡ Some (make (branch_of w))) →
    (w : ℕ) → word (Branch opcode funct3 x) ≡ w → selected w ≡ Some (make x)
branch-case opcode funct3 x make a b v named w e =
    let o : ℕ = field 13 x.offset in
    let s : (signed 4096 o ≡ x.offset) × (o < 2 ^ 13) × (o % 2 ≡ 0) = signed-13 x.offset v.2 in
    let p : ℕ = o / 2 ^ 11 % 2 + o / 2 % 2 ^ 4 * 2 in
    let q : ℕ = o / 2 ^ 5 % 2 ^ 6 + o / 2 ^ 12 * 2 ^ 6 in
    let f : Fields w opcode p funct3 x.rs1 x.rs2 q = fields w opcode p funct3 x.rs1 x.rs2 q a (omega arith) b v.0 v.1 (omega (arith, e)) in
    let g : branch_offset_of w ≡ o = branch-digits w o p q s.1 s.2 refl refl f.rd_is f.funct7_is in
    let same : branch_of w ≡ x = rw (g, s.0, f.rs1_is, f.rs2_is) refl in
    via opcode funct3 (w / 2 ^ 27) (w / 2 ^ 26) (w / 2 ^ 25) w (make (branch_of w)) (make x) f.opcode_is f.funct3_is refl refl refl (named (w / 2 ^ 27) (w / 2 ^ 26) (w / 2 ^ 25) w) (ap make same)

upper-case : (opcode : ℕ) (x : UType) (make : UType → Inst) → opcode < 128 → IsUType x →
    ((funct3 funct5 funct6 funct7 w : ℕ) → select opcode funct3 funct5 funct6 funct7 w ≡ Some (make (upper_of w))) →
    (w : ℕ) → word (Upper opcode x) ≡ w → selected w ≡ Some (make x)
upper-case opcode x make a v named w e =
    let f : w % 128 ≡ opcode = omega (arith, v.0) in
    let g : w / 2 ^ 7 % 32 ≡ x.rd = omega (arith, v.0) in
    let h : w / 2 ^ 12 % 2 ^ 20 ≡ x.immediate = omega (arith, v.0, v.1) in
    let same : upper_of w ≡ x = rw (g, h) refl in
    via opcode (w / 2 ^ 12 % 8) (w / 2 ^ 27) (w / 2 ^ 26) (w / 2 ^ 25) w (make (upper_of w)) (make x) f refl refl refl refl (named (w / 2 ^ 12 % 8) (w / 2 ^ 27) (w / 2 ^ 26) (w / 2 ^ 25) w) (ap make same)

record JumpFields (w opcode rd a b c d : ℕ) : Type 0 where
  opcode_is : w % 128 ≡ opcode
  rd_is : w / 2 ^ 7 % 32 ≡ rd
  a_is : w / 2 ^ 12 % 2 ^ 8 ≡ a
  b_is : w / 2 ^ 20 % 2 ≡ b
  c_is : w / 2 ^ 21 % 2 ^ 10 ≡ c
  d_is : w / 2 ^ 31 % 2 ≡ d

jump-fields : (w opcode rd a b c d : ℕ) → opcode < 128 → rd < 32 → a < 2 ^ 8 → b < 2 → c < 2 ^ 10 → d < 2 →
    opcode + rd * 2 ^ 7 + a * 2 ^ 12 + b * 2 ^ 20 + c * 2 ^ 21 + d * 2 ^ 31 ≡ w → JumpFields w opcode rd a b c d
jump-fields w opcode rd a b c d h k l m n o e =
    record { opcode_is = omega arith; rd_is = omega arith; a_is = omega arith; b_is = omega arith; c_is = omega arith; d_is = omega arith }

jump-case : (opcode : ℕ) (x : JType) (make : JType → Inst) → opcode < 128 → IsJType x →
    ((funct3 funct5 funct6 funct7 w : ℕ) → select opcode funct3 funct5 funct6 funct7 w ≡ Some (make (jump_of w))) →
    (w : ℕ) → word (Jump opcode x) ≡ w → selected w ≡ Some (make x)
jump-case opcode x make below v named w e =
    let o : ℕ = field 21 x.offset in
    let s : (signed 1048576 o ≡ x.offset) × (o < 2 ^ 21) × (o % 2 ≡ 0) = signed-21 x.offset v.1 in
    let f : JumpFields w opcode x.rd (o / 2 ^ 12 % 2 ^ 8) (o / 2 ^ 11 % 2) (o / 2 % 2 ^ 10) (o / 2 ^ 20) = jump-fields w opcode x.rd (o / 2 ^ 12 % 2 ^ 8) (o / 2 ^ 11 % 2) (o / 2 % 2 ^ 10) (o / 2 ^ 20) below v.0 (omega arith) (omega arith) (omega arith) (omega (arith, s.1)) e in
    let k : o / 2 % 2 ^ 10 * 2 + o / 2 ^ 11 % 2 * 2 ^ 11 + o / 2 ^ 12 % 2 ^ 8 * 2 ^ 12 + o / 2 ^ 20 * 2 ^ 20 ≡ o = omega (arith, s.1, s.2) in
    let g : jump_offset_of w ≡ o = rw (f.a_is, f.b_is, f.c_is, f.d_is) k in
    let same : jump_of w ≡ x = rw (g, s.0, f.rd_is) refl in
    via opcode (w / 2 ^ 12 % 8) (w / 2 ^ 27) (w / 2 ^ 26) (w / 2 ^ 25) w (make (jump_of w)) (make x) f.opcode_is refl refl refl refl (named (w / 2 ^ 12 % 8) (w / 2 ^ 27) (w / 2 ^ 26) (w / 2 ^ 25) w) (ap make same)

bit-back : (b : Bool) → nat_eq (from_bool b) 1 ≡ b
bit-back true = refl
bit-back false = refl

memory-case : (opcode funct3 funct5 : ℕ) (x : Atomic) (make : Atomic → Inst) → opcode < 128 → funct3 < 8 → IsAtomic x →
    ((funct6 funct7 w : ℕ) → select opcode funct3 funct5 funct6 funct7 w ≡ Some (make (memory_of w))) →
    (w : ℕ) → word (Memory opcode funct3 funct5 x) ≡ w → selected w ≡ Some (make x)
memory-case opcode funct3 funct5 x make a b v named w e =
    let r : ℕ = from_bool x.release in
    let q : ℕ = from_bool x.acquire in
    let rb : r < 2 = bit_below x.release in
    let qb : q < 2 = bit_below x.acquire in
    let f : Fields w opcode x.rd funct3 x.rs1 x.rs2 (r + q * 2 + funct5 * 4) = fields w opcode x.rd funct3 x.rs1 x.rs2 (r + q * 2 + funct5 * 4) a v.0 b v.1 v.2 (omega (arith, e)) in
    let g : w / 2 ^ 25 % 2 ≡ r = omega (arith, f.funct7_is, rb, qb) in
    let h : w / 2 ^ 26 % 2 ≡ q = omega (arith, f.funct7_is, rb, qb) in
    let k : w / 2 ^ 27 ≡ funct5 = omega (arith, f.funct7_is, rb, qb) in
    let same : memory_of w ≡ x = rw (f.rd_is, f.rs1_is, f.rs2_is, g, h, bit-back x.release, bit-back x.acquire) refl in
    via opcode funct3 funct5 (w / 2 ^ 26) (w / 2 ^ 25) w (make (memory_of w)) (make x) f.opcode_is f.funct3_is k refl refl (named (w / 2 ^ 26) (w / 2 ^ 25) w) (ap make same)

reserve-case : (opcode funct3 funct5 : ℕ) (x : Reserve) (make : Reserve → Inst) → opcode < 128 → funct3 < 8 → IsReserve x →
    ((funct6 funct7 w : ℕ) → select opcode funct3 funct5 funct6 funct7 w ≡ Some (make (reserve_of w))) →
    (w : ℕ) → word (LoadReserved opcode funct3 funct5 x) ≡ w → selected w ≡ Some (make x)
reserve-case opcode funct3 funct5 x make a b v named w e =
    let r : ℕ = from_bool x.release in
    let q : ℕ = from_bool x.acquire in
    let rb : r < 2 = bit_below x.release in
    let qb : q < 2 = bit_below x.acquire in
    let f : Fields w opcode x.rd funct3 x.rs1 0 (r + q * 2 + funct5 * 4) = fields w opcode x.rd funct3 x.rs1 0 (r + q * 2 + funct5 * 4) a v.0 b v.1 (lit< tt) (omega (arith, e)) in
    let g : w / 2 ^ 25 % 2 ≡ r = omega (arith, f.funct7_is, rb, qb) in
    let h : w / 2 ^ 26 % 2 ≡ q = omega (arith, f.funct7_is, rb, qb) in
    let k : w / 2 ^ 27 ≡ funct5 = omega (arith, f.funct7_is, rb, qb) in
    let same : reserve_of w ≡ x = rw (f.rd_is, f.rs1_is, g, h, bit-back x.release, bit-back x.acquire) refl in
    via opcode funct3 funct5 (w / 2 ^ 26) (w / 2 ^ 25) w (make (reserve_of w)) (make x) f.opcode_is f.funct3_is k refl refl (named (w / 2 ^ 26) (w / 2 ^ 25) w) (ap make same)

ordering-case : (opcode funct3 : ℕ) (x : FenceOperands) (make : FenceOperands → Inst) → opcode < 128 → funct3 < 8 → IsFence x →
    ((funct5 funct6 funct7 w : ℕ) → select opcode funct3 funct5 funct6 funct7 w ≡ Some (make (ordering_of w))) →
    (w : ℕ) → word (Ordering opcode funct3 x) ≡ w → selected w ≡ Some (make x)
ordering-case opcode funct3 x make a b v named w e =
    let f : LowFields w opcode x.rd funct3 x.rs1 (x.succ + x.pred * 16 + x.fm * 256) = low-fields w opcode x.rd funct3 x.rs1 (x.succ + x.pred * 16 + x.fm * 256) a v.4 b v.3 (omega (arith, e)) in
    let g : w / 2 ^ 20 % 16 ≡ x.succ = omega (arith, f.rest_is, v.0, v.1, v.2) in
    let h : w / 2 ^ 24 % 16 ≡ x.pred = omega (arith, f.rest_is, v.0, v.1, v.2) in
    let k : w / 2 ^ 28 % 16 ≡ x.fm = omega (arith, f.rest_is, v.0, v.1, v.2) in
    let same : ordering_of w ≡ x = rw (f.rd_is, f.rs1_is, g, h, k) refl in
    via opcode funct3 (w / 2 ^ 27) (w / 2 ^ 26) (w / 2 ^ 25) w (make (ordering_of w)) (make x) f.opcode_is f.funct3_is refl refl refl (named (w / 2 ^ 27) (w / 2 ^ 26) (w / 2 ^ 25) w) (ap make same)

-- what spells is selected, one line a mnemonic
complete : (i : Inst) → IsValid i → (w : ℕ) → word (form i) ≡ w → selected w ≡ Some i
unfolding select
complete (Lui x) v w e = upper-case 0x37 x Lui (lit< tt) v (λ a b c d e. refl) w e
complete (Auipc x) v w e = upper-case 0x17 x Auipc (lit< tt) v (λ a b c d e. refl) w e
complete (Jal x) v w e = jump-case 0x6f x Jal (lit< tt) v (λ a b c d e. refl) w e
complete (Jalr x) v w e = immediate-case 0x67 0 x Jalr (lit< tt) (lit< tt) v (λ a b c d. refl) w e
complete (Beq x) v w e = branch-case 0x63 0 x Beq (lit< tt) (lit< tt) v (λ a b c d. refl) w e
complete (Bne x) v w e = branch-case 0x63 1 x Bne (lit< tt) (lit< tt) v (λ a b c d. refl) w e
complete (Blt x) v w e = branch-case 0x63 4 x Blt (lit< tt) (lit< tt) v (λ a b c d. refl) w e
complete (Bge x) v w e = branch-case 0x63 5 x Bge (lit< tt) (lit< tt) v (λ a b c d. refl) w e
complete (Bltu x) v w e = branch-case 0x63 6 x Bltu (lit< tt) (lit< tt) v (λ a b c d. refl) w e
complete (Bgeu x) v w e = branch-case 0x63 7 x Bgeu (lit< tt) (lit< tt) v (λ a b c d. refl) w e
complete (Lb x) v w e = immediate-case 0x03 0 x Lb (lit< tt) (lit< tt) v (λ a b c d. refl) w e
complete (Lh x) v w e = immediate-case 0x03 1 x Lh (lit< tt) (lit< tt) v (λ a b c d. refl) w e
complete (Lw x) v w e = immediate-case 0x03 2 x Lw (lit< tt) (lit< tt) v (λ a b c d. refl) w e
complete (Ld x) v w e = immediate-case 0x03 3 x Ld (lit< tt) (lit< tt) v (λ a b c d. refl) w e
complete (Lbu x) v w e = immediate-case 0x03 4 x Lbu (lit< tt) (lit< tt) v (λ a b c d. refl) w e
complete (Lhu x) v w e = immediate-case 0x03 5 x Lhu (lit< tt) (lit< tt) v (λ a b c d. refl) w e
complete (Lwu x) v w e = immediate-case 0x03 6 x Lwu (lit< tt) (lit< tt) v (λ a b c d. refl) w e
complete (Sb x) v w e = store-case 0x23 0 x Sb (lit< tt) (lit< tt) v (λ a b c d. refl) w e
complete (Sh x) v w e = store-case 0x23 1 x Sh (lit< tt) (lit< tt) v (λ a b c d. refl) w e
complete (Sw x) v w e = store-case 0x23 2 x Sw (lit< tt) (lit< tt) v (λ a b c d. refl) w e
complete (Sd x) v w e = store-case 0x23 3 x Sd (lit< tt) (lit< tt) v (λ a b c d. refl) w e
complete (Addi x) v w e = immediate-case 0x13 0 x Addi (lit< tt) (lit< tt) v (λ a b c d. refl) w e
complete (Slti x) v w e = immediate-case 0x13 2 x Slti (lit< tt) (lit< tt) v (λ a b c d. refl) w e
complete (Sltiu x) v w e = immediate-case 0x13 3 x Sltiu (lit< tt) (lit< tt) v (λ a b c d. refl) w e
complete (Xori x) v w e = immediate-case 0x13 4 x Xori (lit< tt) (lit< tt) v (λ a b c d. refl) w e
complete (Ori x) v w e = immediate-case 0x13 6 x Ori (lit< tt) (lit< tt) v (λ a b c d. refl) w e
complete (Andi x) v w e = immediate-case 0x13 7 x Andi (lit< tt) (lit< tt) v (λ a b c d. refl) w e
complete (Slli x) v w e = shift-case 0x13 1 0x00 x Slli (lit< tt) (lit< tt) v (λ a b c. refl) w e
complete (Srli x) v w e = shift-case 0x13 5 0x00 x Srli (lit< tt) (lit< tt) v (λ a b c. refl) w e
complete (Srai x) v w e = shift-case 0x13 5 0x10 x Srai (lit< tt) (lit< tt) v (λ a b c. refl) w e
complete (Add x) v w e = register-case 0x33 0 0x00 x Add (lit< tt) (lit< tt) v (λ a b c. refl) w e
complete (Sub x) v w e = register-case 0x33 0 0x20 x Sub (lit< tt) (lit< tt) v (λ a b c. refl) w e
complete (Sll x) v w e = register-case 0x33 1 0x00 x Sll (lit< tt) (lit< tt) v (λ a b c. refl) w e
complete (Slt x) v w e = register-case 0x33 2 0x00 x Slt (lit< tt) (lit< tt) v (λ a b c. refl) w e
complete (Sltu x) v w e = register-case 0x33 3 0x00 x Sltu (lit< tt) (lit< tt) v (λ a b c. refl) w e
complete (Xor x) v w e = register-case 0x33 4 0x00 x Xor (lit< tt) (lit< tt) v (λ a b c. refl) w e
complete (Srl x) v w e = register-case 0x33 5 0x00 x Srl (lit< tt) (lit< tt) v (λ a b c. refl) w e
complete (Sra x) v w e = register-case 0x33 5 0x20 x Sra (lit< tt) (lit< tt) v (λ a b c. refl) w e
complete (Or x) v w e = register-case 0x33 6 0x00 x Or (lit< tt) (lit< tt) v (λ a b c. refl) w e
complete (And x) v w e = register-case 0x33 7 0x00 x And (lit< tt) (lit< tt) v (λ a b c. refl) w e
complete (Addiw x) v w e = immediate-case 0x1b 0 x Addiw (lit< tt) (lit< tt) v (λ a b c d. refl) w e
complete (Slliw x) v w e = word-shift-case 0x1b 1 0x00 x Slliw (lit< tt) (lit< tt) v (λ a b c. refl) w e
complete (Srliw x) v w e = word-shift-case 0x1b 5 0x00 x Srliw (lit< tt) (lit< tt) v (λ a b c. refl) w e
complete (Sraiw x) v w e = word-shift-case 0x1b 5 0x20 x Sraiw (lit< tt) (lit< tt) v (λ a b c. refl) w e
complete (Addw x) v w e = register-case 0x3b 0 0x00 x Addw (lit< tt) (lit< tt) v (λ a b c. refl) w e
complete (Subw x) v w e = register-case 0x3b 0 0x20 x Subw (lit< tt) (lit< tt) v (λ a b c. refl) w e
complete (Sllw x) v w e = register-case 0x3b 1 0x00 x Sllw (lit< tt) (lit< tt) v (λ a b c. refl) w e
complete (Srlw x) v w e = register-case 0x3b 5 0x00 x Srlw (lit< tt) (lit< tt) v (λ a b c. refl) w e
complete (Sraw x) v w e = register-case 0x3b 5 0x20 x Sraw (lit< tt) (lit< tt) v (λ a b c. refl) w e
complete (Fence x) v w e = ordering-case 0x0f 0 x Fence (lit< tt) (lit< tt) v (λ a b c d. refl) w e
complete Ecall v w e = subst (λ n. selected n ≡ Some Ecall) e refl
complete Ebreak v w e = subst (λ n. selected n ≡ Some Ebreak) e refl
complete (Mul x) v w e = register-case 0x33 0 0x01 x Mul (lit< tt) (lit< tt) v (λ a b c. refl) w e
complete (Mulh x) v w e = register-case 0x33 1 0x01 x Mulh (lit< tt) (lit< tt) v (λ a b c. refl) w e
complete (Mulhsu x) v w e = register-case 0x33 2 0x01 x Mulhsu (lit< tt) (lit< tt) v (λ a b c. refl) w e
complete (Mulhu x) v w e = register-case 0x33 3 0x01 x Mulhu (lit< tt) (lit< tt) v (λ a b c. refl) w e
complete (Div x) v w e = register-case 0x33 4 0x01 x Div (lit< tt) (lit< tt) v (λ a b c. refl) w e
complete (Divu x) v w e = register-case 0x33 5 0x01 x Divu (lit< tt) (lit< tt) v (λ a b c. refl) w e
complete (Rem x) v w e = register-case 0x33 6 0x01 x Rem (lit< tt) (lit< tt) v (λ a b c. refl) w e
complete (Remu x) v w e = register-case 0x33 7 0x01 x Remu (lit< tt) (lit< tt) v (λ a b c. refl) w e
complete (Mulw x) v w e = register-case 0x3b 0 0x01 x Mulw (lit< tt) (lit< tt) v (λ a b c. refl) w e
complete (Divw x) v w e = register-case 0x3b 4 0x01 x Divw (lit< tt) (lit< tt) v (λ a b c. refl) w e
complete (Divuw x) v w e = register-case 0x3b 5 0x01 x Divuw (lit< tt) (lit< tt) v (λ a b c. refl) w e
complete (Remw x) v w e = register-case 0x3b 6 0x01 x Remw (lit< tt) (lit< tt) v (λ a b c. refl) w e
complete (Remuw x) v w e = register-case 0x3b 7 0x01 x Remuw (lit< tt) (lit< tt) v (λ a b c. refl) w e
complete (LrW x) v w e = reserve-case 0x2f 2 0x02 x LrW (lit< tt) (lit< tt) v (λ a b c. refl) w e
complete (ScW x) v w e = memory-case 0x2f 2 0x03 x ScW (lit< tt) (lit< tt) v (λ a b c. refl) w e
complete (AmoswapW x) v w e = memory-case 0x2f 2 0x01 x AmoswapW (lit< tt) (lit< tt) v (λ a b c. refl) w e
complete (AmoaddW x) v w e = memory-case 0x2f 2 0x00 x AmoaddW (lit< tt) (lit< tt) v (λ a b c. refl) w e
complete (AmoxorW x) v w e = memory-case 0x2f 2 0x04 x AmoxorW (lit< tt) (lit< tt) v (λ a b c. refl) w e
complete (AmoandW x) v w e = memory-case 0x2f 2 0x0c x AmoandW (lit< tt) (lit< tt) v (λ a b c. refl) w e
complete (AmoorW x) v w e = memory-case 0x2f 2 0x08 x AmoorW (lit< tt) (lit< tt) v (λ a b c. refl) w e
complete (AmominW x) v w e = memory-case 0x2f 2 0x10 x AmominW (lit< tt) (lit< tt) v (λ a b c. refl) w e
complete (AmomaxW x) v w e = memory-case 0x2f 2 0x14 x AmomaxW (lit< tt) (lit< tt) v (λ a b c. refl) w e
complete (AmominuW x) v w e = memory-case 0x2f 2 0x18 x AmominuW (lit< tt) (lit< tt) v (λ a b c. refl) w e
complete (AmomaxuW x) v w e = memory-case 0x2f 2 0x1c x AmomaxuW (lit< tt) (lit< tt) v (λ a b c. refl) w e
complete (LrD x) v w e = reserve-case 0x2f 3 0x02 x LrD (lit< tt) (lit< tt) v (λ a b c. refl) w e
complete (ScD x) v w e = memory-case 0x2f 3 0x03 x ScD (lit< tt) (lit< tt) v (λ a b c. refl) w e
complete (AmoswapD x) v w e = memory-case 0x2f 3 0x01 x AmoswapD (lit< tt) (lit< tt) v (λ a b c. refl) w e
complete (AmoaddD x) v w e = memory-case 0x2f 3 0x00 x AmoaddD (lit< tt) (lit< tt) v (λ a b c. refl) w e
complete (AmoxorD x) v w e = memory-case 0x2f 3 0x04 x AmoxorD (lit< tt) (lit< tt) v (λ a b c. refl) w e
complete (AmoandD x) v w e = memory-case 0x2f 3 0x0c x AmoandD (lit< tt) (lit< tt) v (λ a b c. refl) w e
complete (AmoorD x) v w e = memory-case 0x2f 3 0x08 x AmoorD (lit< tt) (lit< tt) v (λ a b c. refl) w e
complete (AmominD x) v w e = memory-case 0x2f 3 0x10 x AmominD (lit< tt) (lit< tt) v (λ a b c. refl) w e
complete (AmomaxD x) v w e = memory-case 0x2f 3 0x14 x AmomaxD (lit< tt) (lit< tt) v (λ a b c. refl) w e
complete (AmominuD x) v w e = memory-case 0x2f 3 0x18 x AmominuD (lit< tt) (lit< tt) v (λ a b c. refl) w e
complete (AmomaxuD x) v w e = memory-case 0x2f 3 0x1c x AmomaxuD (lit< tt) (lit< tt) v (λ a b c. refl) w e

none-is-no-some : (i : Inst) → None ≡ Some i → ⊥
none-is-no-some i e = cc

Some-injective : (i j : Inst) → Some i ≡ Some j → i ≡ j
Some-injective i j e = cc

-- an answer whose operands are in range
record Sound (found : Option Inst) : Type 0 where
  holds : (i : Inst) → found ≡ Some i → IsValid i

sound-none : Sound None
sound-none = record { holds = λ i e. absurd (none-is-no-some i e) }

sound-some : (i : Inst) → IsValid i → Sound (Some i)
sound-some i v = record { holds = λ j e. subst (λ k. IsValid k) (Some-injective i j e) v }

sound-if : (b : Bool) (x y : Option Inst) → Sound x → Sound y → Sound (if b then x else y)
sound-if true x y p q = p
sound-if false x y p q = q

abbrev Rows : List (Option Inst) → Type 0
Rows [] = Unit {0}
Rows (x ∷ xs) = Sound x × Rows xs

sound-row : (n : ℕ) (xs : List (Option Inst)) → Rows xs → Sound (row n xs)
sound-row n [] all = sound-none
sound-row zero (x ∷ xs) all = all.0
sound-row (suc n) (x ∷ xs) all = sound-row n xs all.1

register-valid : (w : ℕ) → IsRType (register_of w)
register-valid w = (omega arith, omega arith, omega arith)

signed-12-valid : (n : ℕ) → n < 4096 → IsSigned12 (signed 2048 n)
signed-12-valid n h = grind arith

immediate-valid : (w : ℕ) → IsIType (immediate_of w)
immediate-valid w = (omega arith, omega arith, signed-12-valid (w / 2 ^ 20 % 2 ^ 12) (omega arith))

shift-valid : (w : ℕ) → IsShift (shift_of w)
shift-valid w = (omega arith, omega arith, omega arith)

word-shift-valid : (w : ℕ) → IsWordShift (word_shift_of w)
word-shift-valid w = (omega arith, omega arith, omega arith)

store-valid : (w : ℕ) → IsSType (store_of w)
store-valid w = (omega arith, omega arith, signed-12-valid (w / 2 ^ 7 % 2 ^ 5 + w / 2 ^ 25 % 2 ^ 7 * 2 ^ 5) (omega arith))

signed-13-valid : (n : ℕ) → n < 8192 → n % 2 ≡ 0 → IsBranchOffset (signed 4096 n)
signed-13-valid n h even = grind arith

branch-valid : (w : ℕ) → IsBType (branch_of w)
branch-valid w = (omega arith, omega arith, signed-13-valid (branch_offset_of w) (omega arith) (omega arith))

upper-valid : (w : ℕ) → IsUType (upper_of w)
upper-valid w = (omega arith, omega arith)

signed-21-valid : (n : ℕ) → n < 2097152 → n % 2 ≡ 0 → IsJumpOffset (signed 1048576 n)
signed-21-valid n h even = grind arith

jump-valid : (w : ℕ) → IsJType (jump_of w)
jump-valid w = (omega arith, signed-21-valid (jump_offset_of w) (omega arith) (omega arith))

memory-valid : (w : ℕ) → IsAtomic (memory_of w)
memory-valid w = (omega arith, omega arith, omega arith)

reserve-valid : (w : ℕ) → IsReserve (reserve_of w)
reserve-valid w = (omega arith, omega arith)

ordering-valid : (w : ℕ) → IsFence (ordering_of w)
ordering-valid w = (omega arith, omega arith, omega arith, omega arith, omega arith)

sound-loads : (funct3 funct5 funct6 funct7 w : ℕ) → Sound (loads funct3 funct5 funct6 funct7 w)
sound-loads funct3 funct5 funct6 funct7 w = sound-row funct3 (load_rows funct6 funct7 w) ((sound-some (Lb (immediate_of w)) (immediate-valid w)), ((sound-some (Lh (immediate_of w)) (immediate-valid w)), ((sound-some (Lw (immediate_of w)) (immediate-valid w)), ((sound-some (Ld (immediate_of w)) (immediate-valid w)), ((sound-some (Lbu (immediate_of w)) (immediate-valid w)), ((sound-some (Lhu (immediate_of w)) (immediate-valid w)), ((sound-some (Lwu (immediate_of w)) (immediate-valid w)), tt)))))))

sound-stores : (funct3 funct5 funct6 funct7 w : ℕ) → Sound (stores funct3 funct5 funct6 funct7 w)
sound-stores funct3 funct5 funct6 funct7 w = sound-row funct3 (store_rows funct6 funct7 w) ((sound-some (Sb (store_of w)) (store-valid w)), ((sound-some (Sh (store_of w)) (store-valid w)), ((sound-some (Sw (store_of w)) (store-valid w)), ((sound-some (Sd (store_of w)) (store-valid w)), tt))))

sound-branches : (funct3 funct5 funct6 funct7 w : ℕ) → Sound (branches funct3 funct5 funct6 funct7 w)
sound-branches funct3 funct5 funct6 funct7 w = sound-row funct3 (branch_rows funct6 funct7 w) ((sound-some (Beq (branch_of w)) (branch-valid w)), ((sound-some (Bne (branch_of w)) (branch-valid w)), (sound-none, (sound-none, ((sound-some (Blt (branch_of w)) (branch-valid w)), ((sound-some (Bge (branch_of w)) (branch-valid w)), ((sound-some (Bltu (branch_of w)) (branch-valid w)), ((sound-some (Bgeu (branch_of w)) (branch-valid w)), tt))))))))

sound-op_imm : (funct3 funct5 funct6 funct7 w : ℕ) → Sound (op_imm funct3 funct5 funct6 funct7 w)
sound-op_imm funct3 funct5 funct6 funct7 w = sound-row funct3 (constant_rows funct6 funct7 w) ((sound-some (Addi (immediate_of w)) (immediate-valid w)), ((sound-if (nat_eq funct6 0x00) _ _ (sound-some (Slli (shift_of w)) (shift-valid w)) sound-none), ((sound-some (Slti (immediate_of w)) (immediate-valid w)), ((sound-some (Sltiu (immediate_of w)) (immediate-valid w)), ((sound-some (Xori (immediate_of w)) (immediate-valid w)), ((sound-if (nat_eq funct6 0x00) _ _ (sound-some (Srli (shift_of w)) (shift-valid w)) (sound-if (nat_eq funct6 0x10) _ _ (sound-some (Srai (shift_of w)) (shift-valid w)) sound-none)), ((sound-some (Ori (immediate_of w)) (immediate-valid w)), ((sound-some (Andi (immediate_of w)) (immediate-valid w)), tt))))))))

sound-op_imm_32 : (funct3 funct5 funct6 funct7 w : ℕ) → Sound (op_imm_32 funct3 funct5 funct6 funct7 w)
sound-op_imm_32 funct3 funct5 funct6 funct7 w = sound-row funct3 (word_constant_rows funct6 funct7 w) ((sound-some (Addiw (immediate_of w)) (immediate-valid w)), ((sound-if (nat_eq funct7 0x00) _ _ (sound-some (Slliw (word_shift_of w)) (word-shift-valid w)) sound-none), (sound-none, (sound-none, (sound-none, ((sound-if (nat_eq funct7 0x00) _ _ (sound-some (Srliw (word_shift_of w)) (word-shift-valid w)) (sound-if (nat_eq funct7 0x20) _ _ (sound-some (Sraiw (word_shift_of w)) (word-shift-valid w)) sound-none)), tt))))))

sound-op : (funct3 funct5 funct6 funct7 w : ℕ) → Sound (op funct3 funct5 funct6 funct7 w)
sound-op funct3 funct5 funct6 funct7 w = sound-if (nat_eq funct7 0) _ _ (sound-row funct3 (plain_rows funct6 funct7 w) ((sound-some (Add (register_of w)) (register-valid w)), ((sound-some (Sll (register_of w)) (register-valid w)), ((sound-some (Slt (register_of w)) (register-valid w)), ((sound-some (Sltu (register_of w)) (register-valid w)), ((sound-some (Xor (register_of w)) (register-valid w)), ((sound-some (Srl (register_of w)) (register-valid w)), ((sound-some (Or (register_of w)) (register-valid w)), ((sound-some (And (register_of w)) (register-valid w)), tt))))))))) (sound-if (nat_eq funct7 1) _ _ (sound-row funct3 (product_rows funct6 funct7 w) ((sound-some (Mul (register_of w)) (register-valid w)), ((sound-some (Mulh (register_of w)) (register-valid w)), ((sound-some (Mulhsu (register_of w)) (register-valid w)), ((sound-some (Mulhu (register_of w)) (register-valid w)), ((sound-some (Div (register_of w)) (register-valid w)), ((sound-some (Divu (register_of w)) (register-valid w)), ((sound-some (Rem (register_of w)) (register-valid w)), ((sound-some (Remu (register_of w)) (register-valid w)), tt))))))))) (sound-if (nat_eq funct7 32) _ _ (sound-row funct3 (other_rows funct6 funct7 w) ((sound-some (Sub (register_of w)) (register-valid w)), (sound-none, (sound-none, (sound-none, (sound-none, ((sound-some (Sra (register_of w)) (register-valid w)), tt))))))) sound-none))

sound-op_32 : (funct3 funct5 funct6 funct7 w : ℕ) → Sound (op_32 funct3 funct5 funct6 funct7 w)
sound-op_32 funct3 funct5 funct6 funct7 w = sound-if (nat_eq funct7 0) _ _ (sound-row funct3 (word_plain_rows funct6 funct7 w) ((sound-some (Addw (register_of w)) (register-valid w)), ((sound-some (Sllw (register_of w)) (register-valid w)), (sound-none, (sound-none, (sound-none, ((sound-some (Srlw (register_of w)) (register-valid w)), tt))))))) (sound-if (nat_eq funct7 1) _ _ (sound-row funct3 (word_product_rows funct6 funct7 w) ((sound-some (Mulw (register_of w)) (register-valid w)), (sound-none, (sound-none, (sound-none, ((sound-some (Divw (register_of w)) (register-valid w)), ((sound-some (Divuw (register_of w)) (register-valid w)), ((sound-some (Remw (register_of w)) (register-valid w)), ((sound-some (Remuw (register_of w)) (register-valid w)), tt))))))))) (sound-if (nat_eq funct7 32) _ _ (sound-row funct3 (word_other_rows funct6 funct7 w) ((sound-some (Subw (register_of w)) (register-valid w)), (sound-none, (sound-none, (sound-none, (sound-none, ((sound-some (Sraw (register_of w)) (register-valid w)), tt))))))) sound-none))

sound-amo : (funct3 funct5 funct6 funct7 w : ℕ) → Sound (amo funct3 funct5 funct6 funct7 w)
sound-amo funct3 funct5 funct6 funct7 w = sound-if (nat_eq funct3 2) _ _ (sound-row funct5 (word_memory_rows funct6 funct7 w) ((sound-some (AmoaddW (memory_of w)) (memory-valid w)), ((sound-some (AmoswapW (memory_of w)) (memory-valid w)), ((sound-some (LrW (reserve_of w)) (reserve-valid w)), ((sound-some (ScW (memory_of w)) (memory-valid w)), ((sound-some (AmoxorW (memory_of w)) (memory-valid w)), (sound-none, (sound-none, (sound-none, ((sound-some (AmoorW (memory_of w)) (memory-valid w)), (sound-none, (sound-none, (sound-none, ((sound-some (AmoandW (memory_of w)) (memory-valid w)), (sound-none, (sound-none, (sound-none, ((sound-some (AmominW (memory_of w)) (memory-valid w)), (sound-none, (sound-none, (sound-none, ((sound-some (AmomaxW (memory_of w)) (memory-valid w)), (sound-none, (sound-none, (sound-none, ((sound-some (AmominuW (memory_of w)) (memory-valid w)), (sound-none, (sound-none, (sound-none, ((sound-some (AmomaxuW (memory_of w)) (memory-valid w)), tt)))))))))))))))))))))))))))))) (sound-if (nat_eq funct3 3) _ _ (sound-row funct5 (double_memory_rows funct6 funct7 w) ((sound-some (AmoaddD (memory_of w)) (memory-valid w)), ((sound-some (AmoswapD (memory_of w)) (memory-valid w)), ((sound-some (LrD (reserve_of w)) (reserve-valid w)), ((sound-some (ScD (memory_of w)) (memory-valid w)), ((sound-some (AmoxorD (memory_of w)) (memory-valid w)), (sound-none, (sound-none, (sound-none, ((sound-some (AmoorD (memory_of w)) (memory-valid w)), (sound-none, (sound-none, (sound-none, ((sound-some (AmoandD (memory_of w)) (memory-valid w)), (sound-none, (sound-none, (sound-none, ((sound-some (AmominD (memory_of w)) (memory-valid w)), (sound-none, (sound-none, (sound-none, ((sound-some (AmomaxD (memory_of w)) (memory-valid w)), (sound-none, (sound-none, (sound-none, ((sound-some (AmominuD (memory_of w)) (memory-valid w)), (sound-none, (sound-none, (sound-none, ((sound-some (AmomaxuD (memory_of w)) (memory-valid w)), tt)))))))))))))))))))))))))))))) sound-none)

sound-select : (opcode funct3 funct5 funct6 funct7 w : ℕ) → Sound (select opcode funct3 funct5 funct6 funct7 w)
unfolding select
sound-select opcode funct3 funct5 funct6 funct7 w =
    sound-if (nat_eq opcode 0x03) _ _ (sound-loads funct3 funct5 funct6 funct7 w) (
    sound-if (nat_eq opcode 0x0f) _ _ (sound-row funct3 (fence_rows funct6 funct7 w) (sound-some (Fence (ordering_of w)) (ordering-valid w), tt)) (
    sound-if (nat_eq opcode 0x13) _ _ (sound-op_imm funct3 funct5 funct6 funct7 w) (
    sound-if (nat_eq opcode 0x17) _ _ (sound-some (Auipc (upper_of w)) (upper-valid w)) (
    sound-if (nat_eq opcode 0x1b) _ _ (sound-op_imm_32 funct3 funct5 funct6 funct7 w) (
    sound-if (nat_eq opcode 0x23) _ _ (sound-stores funct3 funct5 funct6 funct7 w) (
    sound-if (nat_eq opcode 0x2f) _ _ (sound-amo funct3 funct5 funct6 funct7 w) (
    sound-if (nat_eq opcode 0x33) _ _ (sound-op funct3 funct5 funct6 funct7 w) (
    sound-if (nat_eq opcode 0x37) _ _ (sound-some (Lui (upper_of w)) (upper-valid w)) (
    sound-if (nat_eq opcode 0x3b) _ _ (sound-op_32 funct3 funct5 funct6 funct7 w) (
    sound-if (nat_eq opcode 0x63) _ _ (sound-branches funct3 funct5 funct6 funct7 w) (
    sound-if (nat_eq opcode 0x67) _ _ (sound-row funct3 (jalr_rows funct6 funct7 w) (sound-some (Jalr (immediate_of w)) (immediate-valid w), tt)) (
    sound-if (nat_eq opcode 0x6f) _ _ (sound-some (Jal (jump_of w)) (jump-valid w)) (
    sound-if (nat_eq opcode 0x73) _ _ (sound-if (nat_eq (w / 2 ^ 20) 1) _ _ (sound-some Ebreak tt) (sound-some Ecall tt)) (
    sound-none))))))))))))))

-- what is kept spells
kept-if : (b : Bool) (w : ℕ) (i j : Inst) → IsValid i → nat_eq (word (form i)) w ≡ b → (if b then Some i else None) ≡ Some j → Spells w j
kept-if true w i j v e same =
    let sum : word (form i) ≡ w = grind arith in
    subst (λ k. Spells w k) (Some-injective i j same) (record { valid = v; sum = sum })
kept-if false w i j v e same = absurd (none-is-no-some j same)

kept-sound : (found : Option Inst) (w : ℕ) (j : Inst) → Sound found → kept found w ≡ Some j → Spells w j
kept-sound None w j s e = absurd (none-is-no-some j e)
kept-sound (Some i) w j s e = kept-if (nat_eq (word (form i)) w) w i j (s.holds i refl) refl e

kept-complete : (found : Option Inst) (w : ℕ) (i : Inst) → found ≡ Some i → word (form i) ≡ w → kept found w ≡ Some i
kept-complete found w i e sum =
    let test : nat_eq (word (form i)) w ≡ true = eq-eqb (word (form i)) w sum in
    let at : kept (Some i) w ≡ Some i = ap (λ b. if b then Some i else None) test in
    subst (λ f. kept f w ≡ Some i) (sym e) at

-- the reader answers exactly what a word spells
pub word_read-exact : (w : ℕ) (i : Inst) → word_read w ≡ Some i ↔ Spells w i
word_read-exact w i = (
  λ e. kept-sound (selected w) w i (sound-select (w % 128) (w / 2 ^ 12 % 8) (w / 2 ^ 27) (w / 2 ^ 26) (w / 2 ^ 25) w) e,
  λ s. kept-complete (selected w) w i (complete i s.valid w s.sum) s.sum,
)
