-- The word of every instruction in range fits 32 bits, and ends in 11 as each four-byte instruction does (ISA, 1.5).

use Rattle.std.proofs.Common.{◌≡◌, ℕ, ◌+◌, ◌*◌, ◌/◌, ◌%◌, ◌^◌, ◌<◌, arith, ℤ, pos, negsuc}
use Rattle.std.proofs.lemmas.Int.{ints}
use Rattle.std.specs.Int.{from_bool}
use Rattle.rv_list_laws.proofs.TruthLemmas.{bit_below}
use Rattle.rv_isa.specs.declared.instruction.RType.{RType}
use Rattle.rv_isa.specs.declared.instruction.IType.{IType}
use Rattle.rv_isa.specs.declared.instruction.Shift.{Shift}
use Rattle.rv_isa.specs.declared.instruction.SType.{SType}
use Rattle.rv_isa.specs.declared.instruction.BType.{BType}
use Rattle.rv_isa.specs.declared.instruction.UType.{UType}
use Rattle.rv_isa.specs.declared.instruction.JType.{JType}
use Rattle.rv_isa.specs.declared.instruction.Atomic.{Atomic}
use Rattle.rv_isa.specs.declared.instruction.Reserve.{Reserve}
use Rattle.rv_isa.specs.declared.instruction.Fence.{Fence as FenceOperands}
use Rattle.rv_isa.specs.declared.instruction.Inst.{Inst}
use Rattle.rv_isa.specs.Ranges.{IsSigned12, IsBranchOffset, IsJumpOffset, IsRType, IsIType, IsShift, IsWordShift, IsSType, IsBType, IsUType, IsJType, IsAtomic, IsReserve, IsFence, IsValid}
use Rattle.rv_isa_laws.specs.Word.{Form, Register, Immediate, ShiftBy, WordShift, Store, Branch, Upper, Jump, Memory, LoadReserved, Ordering, Whole, form, word, field}

abbrev pub IsWideForm : Form → Type 0
IsWideForm f = (word f < 2 ^ 32) × (word f % 4 ≡ 3)

abbrev pub IsWide : Inst → Type 0
IsWide i = IsWideForm (form i)

field_12 : (z : ℤ) → IsSigned12 z → field 12 z < 4096
field_12 (pos n) (low, high) = omega (arith, ints)
field_12 (negsuc n) (low, high) = omega (arith, ints)

field_13 : (z : ℤ) → IsBranchOffset z → field 13 z < 8192
field_13 (pos n) (low, high, even) = omega (arith, ints)
field_13 (negsuc n) (low, high, even) = omega (arith, ints)

field_21 : (z : ℤ) → IsJumpOffset z → field 21 z < 2097152
field_21 (pos n) (low, high, even) = omega (arith, ints)
field_21 (negsuc n) (low, high, even) = omega (arith, ints)

register_wide : (opcode funct3 funct7 : ℕ) (x : RType) → opcode < 128 → opcode % 4 ≡ 3 → funct3 < 8 → funct7 < 128 → IsRType x → IsWideForm (Register opcode funct3 funct7 x)
register_wide opcode funct3 funct7 x o l f g (rd, rs1, rs2) = (omega arith, omega arith)

twelve : (opcode rd funct3 rs1 k : ℕ) → opcode < 128 → opcode % 4 ≡ 3 → rd < 32 → funct3 < 8 → rs1 < 32 → k < 4096
    → (opcode + rd * 2 ^ 7 + funct3 * 2 ^ 12 + rs1 * 2 ^ 15 + k * 2 ^ 20 < 2 ^ 32) × ((opcode + rd * 2 ^ 7 + funct3 * 2 ^ 12 + rs1 * 2 ^ 15 + k * 2 ^ 20) % 4 ≡ 3)
twelve opcode rd funct3 rs1 k o l r f s below = (omega arith, omega arith)

immediate_wide : (opcode funct3 : ℕ) (x : IType) → opcode < 128 → opcode % 4 ≡ 3 → funct3 < 8 → IsIType x → IsWideForm (Immediate opcode funct3 x)
immediate_wide opcode funct3 x o l f (rd, rs1, k) = twelve opcode x.rd funct3 x.rs1 (field 12 x.immediate) o l rd f rs1 (field_12 x.immediate k)

shift_wide : (opcode funct3 funct6 : ℕ) (x : Shift) → opcode < 128 → opcode % 4 ≡ 3 → funct3 < 8 → funct6 < 64 → IsShift x → IsWideForm (ShiftBy opcode funct3 funct6 x)
shift_wide opcode funct3 funct6 x o l f g (rd, rs1, amount) = (omega arith, omega arith)

word_shift_wide : (opcode funct3 funct7 : ℕ) (x : Shift) → opcode < 128 → opcode % 4 ≡ 3 → funct3 < 8 → funct7 < 128 → IsWordShift x → IsWideForm (WordShift opcode funct3 funct7 x)
word_shift_wide opcode funct3 funct7 x o l f g (rd, rs1, amount) = (omega arith, omega arith)

store_parts : (opcode funct3 rs1 rs2 k : ℕ) → opcode < 128 → opcode % 4 ≡ 3 → funct3 < 8 → rs1 < 32 → rs2 < 32 → k < 4096
    → (opcode + k % 2 ^ 5 * 2 ^ 7 + funct3 * 2 ^ 12 + rs1 * 2 ^ 15 + rs2 * 2 ^ 20 + k / 2 ^ 5 * 2 ^ 25 < 2 ^ 32)
    × ((opcode + k % 2 ^ 5 * 2 ^ 7 + funct3 * 2 ^ 12 + rs1 * 2 ^ 15 + rs2 * 2 ^ 20 + k / 2 ^ 5 * 2 ^ 25) % 4 ≡ 3)
store_parts opcode funct3 rs1 rs2 k o l f r s below = (omega arith, omega arith)

store_wide : (opcode funct3 : ℕ) (x : SType) → opcode < 128 → opcode % 4 ≡ 3 → funct3 < 8 → IsSType x → IsWideForm (Store opcode funct3 x)
store_wide opcode funct3 x o l f (rs1, rs2, k) = store_parts opcode funct3 x.rs1 x.rs2 (field 12 x.immediate) o l f rs1 rs2 (field_12 x.immediate k)

branch_sum : (opcode funct3 rs1 rs2 a b c d : ℕ) → opcode < 128 → opcode % 4 ≡ 3 → funct3 < 8 → rs1 < 32 → rs2 < 32 → a < 2 → b < 16 → c < 64 → d < 2
    → (opcode + a * 2 ^ 7 + b * 2 ^ 8 + funct3 * 2 ^ 12 + rs1 * 2 ^ 15 + rs2 * 2 ^ 20 + c * 2 ^ 25 + d * 2 ^ 31 < 2 ^ 32)
    × ((opcode + a * 2 ^ 7 + b * 2 ^ 8 + funct3 * 2 ^ 12 + rs1 * 2 ^ 15 + rs2 * 2 ^ 20 + c * 2 ^ 25 + d * 2 ^ 31) % 4 ≡ 3)
branch_sum opcode funct3 rs1 rs2 a b c d o l f r s p q u v = (omega arith, omega arith)

branch_wide : (opcode funct3 : ℕ) (x : BType) → opcode < 128 → opcode % 4 ≡ 3 → funct3 < 8 → IsBType x → IsWideForm (Branch opcode funct3 x)
branch_wide opcode funct3 x o l f (rs1, rs2, k) =
    let below = field_13 x.offset k in
    branch_sum opcode funct3 x.rs1 x.rs2 (field 13 x.offset / 2 ^ 11 % 2) (field 13 x.offset / 2 % 2 ^ 4) (field 13 x.offset / 2 ^ 5 % 2 ^ 6) (field 13 x.offset / 2 ^ 12) o l f rs1 rs2
    (omega arith) (omega arith) (omega arith) (omega arith)

upper_wide : (opcode : ℕ) (x : UType) → opcode < 128 → opcode % 4 ≡ 3 → IsUType x → IsWideForm (Upper opcode x)
upper_wide opcode x o l (rd, k) = (omega arith, omega arith)

jump_sum : (opcode rd a b c d : ℕ) → opcode < 128 → opcode % 4 ≡ 3 → rd < 32 → a < 256 → b < 2 → c < 1024 → d < 2
    → (opcode + rd * 2 ^ 7 + a * 2 ^ 12 + b * 2 ^ 20 + c * 2 ^ 21 + d * 2 ^ 31 < 2 ^ 32) × ((opcode + rd * 2 ^ 7 + a * 2 ^ 12 + b * 2 ^ 20 + c * 2 ^ 21 + d * 2 ^ 31) % 4 ≡ 3)
jump_sum opcode rd a b c d o l r p q u v = (omega arith, omega arith)

jump_wide : (opcode : ℕ) (x : JType) → opcode < 128 → opcode % 4 ≡ 3 → IsJType x → IsWideForm (Jump opcode x)
jump_wide opcode x o l (rd, k) =
    let below = field_21 x.offset k in
    jump_sum opcode x.rd (field 21 x.offset / 2 ^ 12 % 2 ^ 8) (field 21 x.offset / 2 ^ 11 % 2) (field 21 x.offset / 2 % 2 ^ 10) (field 21 x.offset / 2 ^ 20) o l rd
    (omega arith) (omega arith) (omega arith) (omega arith)

memory_sum : (opcode rd funct3 rs1 rs2 r a funct5 : ℕ) → opcode < 128 → opcode % 4 ≡ 3 → rd < 32 → funct3 < 8 → rs1 < 32 → rs2 < 32 → r < 2 → a < 2 → funct5 < 32
    → (opcode + rd * 2 ^ 7 + funct3 * 2 ^ 12 + rs1 * 2 ^ 15 + rs2 * 2 ^ 20 + r * 2 ^ 25 + a * 2 ^ 26 + funct5 * 2 ^ 27 < 2 ^ 32)
    × ((opcode + rd * 2 ^ 7 + funct3 * 2 ^ 12 + rs1 * 2 ^ 15 + rs2 * 2 ^ 20 + r * 2 ^ 25 + a * 2 ^ 26 + funct5 * 2 ^ 27) % 4 ≡ 3)
memory_sum opcode rd funct3 rs1 rs2 r a funct5 o l d f s t p q g = (omega arith, omega arith)

memory_wide : (opcode funct3 funct5 : ℕ) (x : Atomic) → opcode < 128 → opcode % 4 ≡ 3 → funct3 < 8 → funct5 < 32 → IsAtomic x → IsWideForm (Memory opcode funct3 funct5 x)
memory_wide opcode funct3 funct5 x o l f g (rd, rs1, rs2) =
    memory_sum opcode x.rd funct3 x.rs1 x.rs2 (from_bool x.release) (from_bool x.acquire) funct5 o l rd f rs1 rs2 (bit_below x.release) (bit_below x.acquire) g

reserve_sum : (opcode rd funct3 rs1 r a funct5 : ℕ) → opcode < 128 → opcode % 4 ≡ 3 → rd < 32 → funct3 < 8 → rs1 < 32 → r < 2 → a < 2 → funct5 < 32
    → (opcode + rd * 2 ^ 7 + funct3 * 2 ^ 12 + rs1 * 2 ^ 15 + r * 2 ^ 25 + a * 2 ^ 26 + funct5 * 2 ^ 27 < 2 ^ 32)
    × ((opcode + rd * 2 ^ 7 + funct3 * 2 ^ 12 + rs1 * 2 ^ 15 + r * 2 ^ 25 + a * 2 ^ 26 + funct5 * 2 ^ 27) % 4 ≡ 3)
reserve_sum opcode rd funct3 rs1 r a funct5 o l d f s p q g = (omega arith, omega arith)

reserve_wide : (opcode funct3 funct5 : ℕ) (x : Reserve) → opcode < 128 → opcode % 4 ≡ 3 → funct3 < 8 → funct5 < 32 → IsReserve x → IsWideForm (LoadReserved opcode funct3 funct5 x)
reserve_wide opcode funct3 funct5 x o l f g (rd, rs1) =
    reserve_sum opcode x.rd funct3 x.rs1 (from_bool x.release) (from_bool x.acquire) funct5 o l rd f rs1 (bit_below x.release) (bit_below x.acquire) g

ordering_wide : (opcode funct3 : ℕ) (x : FenceOperands) → opcode < 128 → opcode % 4 ≡ 3 → funct3 < 8 → IsFence x → IsWideForm (Ordering opcode funct3 x)
ordering_wide opcode funct3 x o l f (fm, pred, succ, rs1, rd) = (omega arith, omega arith)

-- the selectors of a form fit their fields, and its operands are in their ranges
abbrev IsFormed : Form → Type 0
IsFormed (Register opcode funct3 funct7 x) = (opcode < 128) × (opcode % 4 ≡ 3) × (funct3 < 8) × (funct7 < 128) × IsRType x
IsFormed (Immediate opcode funct3 x) = (opcode < 128) × (opcode % 4 ≡ 3) × (funct3 < 8) × IsIType x
IsFormed (ShiftBy opcode funct3 funct6 x) = (opcode < 128) × (opcode % 4 ≡ 3) × (funct3 < 8) × (funct6 < 64) × IsShift x
IsFormed (WordShift opcode funct3 funct7 x) = (opcode < 128) × (opcode % 4 ≡ 3) × (funct3 < 8) × (funct7 < 128) × IsWordShift x
IsFormed (Store opcode funct3 x) = (opcode < 128) × (opcode % 4 ≡ 3) × (funct3 < 8) × IsSType x
IsFormed (Branch opcode funct3 x) = (opcode < 128) × (opcode % 4 ≡ 3) × (funct3 < 8) × IsBType x
IsFormed (Upper opcode x) = (opcode < 128) × (opcode % 4 ≡ 3) × IsUType x
IsFormed (Jump opcode x) = (opcode < 128) × (opcode % 4 ≡ 3) × IsJType x
IsFormed (Memory opcode funct3 funct5 x) = (opcode < 128) × (opcode % 4 ≡ 3) × (funct3 < 8) × (funct5 < 32) × IsAtomic x
IsFormed (LoadReserved opcode funct3 funct5 x) = (opcode < 128) × (opcode % 4 ≡ 3) × (funct3 < 8) × (funct5 < 32) × IsReserve x
IsFormed (Ordering opcode funct3 x) = (opcode < 128) × (opcode % 4 ≡ 3) × (funct3 < 8) × IsFence x
IsFormed (Whole bits) = (bits < 2 ^ 32) × (bits % 4 ≡ 3)

form_wide : (f : Form) → IsFormed f → IsWideForm f
form_wide (Register opcode funct3 funct7 x) (o, l, f, g, v) = register_wide opcode funct3 funct7 x o l f g v
form_wide (Immediate opcode funct3 x) (o, l, f, v) = immediate_wide opcode funct3 x o l f v
form_wide (ShiftBy opcode funct3 funct6 x) (o, l, f, g, v) = shift_wide opcode funct3 funct6 x o l f g v
form_wide (WordShift opcode funct3 funct7 x) (o, l, f, g, v) = word_shift_wide opcode funct3 funct7 x o l f g v
form_wide (Store opcode funct3 x) (o, l, f, v) = store_wide opcode funct3 x o l f v
form_wide (Branch opcode funct3 x) (o, l, f, v) = branch_wide opcode funct3 x o l f v
form_wide (Upper opcode x) (o, l, v) = upper_wide opcode x o l v
form_wide (Jump opcode x) (o, l, v) = jump_wide opcode x o l v
form_wide (Memory opcode funct3 funct5 x) (o, l, f, g, v) = memory_wide opcode funct3 funct5 x o l f g v
form_wide (LoadReserved opcode funct3 funct5 x) (o, l, f, g, v) = reserve_wide opcode funct3 funct5 x o l f g v
form_wide (Ordering opcode funct3 x) (o, l, f, v) = ordering_wide opcode funct3 x o l f v
form_wide (Whole bits) v = v

-- each row of the table, by one search
formed : (i : Inst) → IsValid i → IsFormed (form i)
formed i v = grind arith

pub valid_wide : (i : Inst) → IsValid i → IsWide i
valid_wide i v = form_wide (form i) (formed i v)
