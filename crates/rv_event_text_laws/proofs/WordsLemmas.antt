-- The word of every instruction in range fits 32 bits, and spells it alone.

use Rattle.std.proofs.Common.{◌≡◌, ℕ, ◌+◌, ◌*◌, ◌/◌, ◌%◌, ◌^◌, ◌<◌, arith, ℤ, pos, negsuc, ◌≤ℤ◌, Some, sym, ◌∙◌, refl}
use Rattle.std.proofs.lemmas.Int.{ints}
use Rattle.std.proofs.lemmas.Option.{same_Some}
use Rattle.std.specs.Int.{from_bool}
use Rattle.rv_list_laws.proofs.TruthLemmas.{bit_below}
use Rattle.rv_isa.specs.declared.instruction.Inst.{Inst}
use Rattle.rv_isa.specs.Ranges.{IsRType, IsIType, IsShift, IsWordShift, IsSType, IsBType, IsUType, IsJType, IsAtomic, IsReserve, IsFence, IsValid}
use Rattle.rv_isa_laws.specs.Word.{Form, Register, Immediate, ShiftBy, WordShift, Store, Branch, Upper, Jump, Memory, LoadReserved, Ordering, Whole, form, word, field}
use Rattle.rv_isa_laws.proofs.ReaderLemmas.{word_read, word_read-exact}

-- a word spells no two instructions
pub same_instruction : (i j : Inst) → IsValid i → IsValid j → word (form i) ≡ word (form j) → i ≡ j
same_instruction i j u v e =
    let here : word_read (word (form i)) ≡ Some i = (word_read-exact (word (form i)) i).1 (record { valid = u; sum = refl }) in
    let there : word_read (word (form i)) ≡ Some j = (word_read-exact (word (form i)) j).1 (record { valid = v; sum = sym e }) in
    same_Some i j (sym here ∙ there)

-- an operand in two's complement fits its field
field_below : (bits limit high : ℕ) (z : ℤ) → 2 ^ bits ≡ limit → high < limit → z ≤ℤ pos high → field bits z < limit
field_below bits limit high (pos n) is below most = omega (arith, ints)
field_below bits limit high (negsuc n) is below most = omega (arith, ints)

-- the selectors of a form fit their fields, and its operands are in their ranges
abbrev IsFormed : Form → Type 0
IsFormed (Register opcode funct3 funct7 x) = (opcode < 128) × (funct3 < 8) × (funct7 < 128) × IsRType x
IsFormed (Immediate opcode funct3 x) = (opcode < 128) × (funct3 < 8) × IsIType x
IsFormed (ShiftBy opcode funct3 funct6 x) = (opcode < 128) × (funct3 < 8) × (funct6 < 64) × IsShift x
IsFormed (WordShift opcode funct3 funct7 x) = (opcode < 128) × (funct3 < 8) × (funct7 < 128) × IsWordShift x
IsFormed (Store opcode funct3 x) = (opcode < 128) × (funct3 < 8) × IsSType x
IsFormed (Branch opcode funct3 x) = (opcode < 128) × (funct3 < 8) × IsBType x
IsFormed (Upper opcode x) = (opcode < 128) × IsUType x
IsFormed (Jump opcode x) = (opcode < 128) × IsJType x
IsFormed (Memory opcode funct3 funct5 x) = (opcode < 128) × (funct3 < 8) × (funct5 < 32) × IsAtomic x
IsFormed (LoadReserved opcode funct3 funct5 x) = (opcode < 128) × (funct3 < 8) × (funct5 < 32) × IsReserve x
IsFormed (Ordering opcode funct3 x) = (opcode < 128) × (funct3 < 8) × IsFence x
IsFormed (Whole bits) = bits < 2 ^ 32

-- the sums of the formats, over numbers alone
five : (opcode rd funct3 rs1 rest : ℕ) → opcode < 128 → rd < 32 → funct3 < 8 → rs1 < 32 → rest < 4096
    → opcode + rd * 2 ^ 7 + funct3 * 2 ^ 12 + rs1 * 2 ^ 15 + rest * 2 ^ 20 < 2 ^ 32
five opcode rd funct3 rs1 rest o d f s r = omega arith

store_sum : (opcode funct3 rs1 rs2 k : ℕ) → opcode < 128 → funct3 < 8 → rs1 < 32 → rs2 < 32 → k < 4096
    → opcode + k % 2 ^ 5 * 2 ^ 7 + funct3 * 2 ^ 12 + rs1 * 2 ^ 15 + rs2 * 2 ^ 20 + k / 2 ^ 5 * 2 ^ 25 < 2 ^ 32
store_sum opcode funct3 rs1 rs2 k o f r s below = omega arith

branch_sum : (opcode funct3 rs1 rs2 a b c d : ℕ) → opcode < 128 → funct3 < 8 → rs1 < 32 → rs2 < 32 → a < 2 → b < 16 → c < 64 → d < 2
    → opcode + a * 2 ^ 7 + b * 2 ^ 8 + funct3 * 2 ^ 12 + rs1 * 2 ^ 15 + rs2 * 2 ^ 20 + c * 2 ^ 25 + d * 2 ^ 31 < 2 ^ 32
branch_sum opcode funct3 rs1 rs2 a b c d o f r s p q u v = omega arith

jump_sum : (opcode rd a b c d : ℕ) → opcode < 128 → rd < 32 → a < 256 → b < 2 → c < 1024 → d < 2
    → opcode + rd * 2 ^ 7 + a * 2 ^ 12 + b * 2 ^ 20 + c * 2 ^ 21 + d * 2 ^ 31 < 2 ^ 32
jump_sum opcode rd a b c d o r p q u v = omega arith

memory_sum : (opcode rd funct3 rs1 rs2 r a funct5 : ℕ) → opcode < 128 → rd < 32 → funct3 < 8 → rs1 < 32 → rs2 < 32 → r < 2 → a < 2 → funct5 < 32
    → opcode + rd * 2 ^ 7 + funct3 * 2 ^ 12 + rs1 * 2 ^ 15 + rs2 * 2 ^ 20 + r * 2 ^ 25 + a * 2 ^ 26 + funct5 * 2 ^ 27 < 2 ^ 32
memory_sum opcode rd funct3 rs1 rs2 r a funct5 o d f s t p q g = omega arith

reserve_sum : (opcode rd funct3 rs1 r a funct5 : ℕ) → opcode < 128 → rd < 32 → funct3 < 8 → rs1 < 32 → r < 2 → a < 2 → funct5 < 32
    → opcode + rd * 2 ^ 7 + funct3 * 2 ^ 12 + rs1 * 2 ^ 15 + r * 2 ^ 25 + a * 2 ^ 26 + funct5 * 2 ^ 27 < 2 ^ 32
reserve_sum opcode rd funct3 rs1 r a funct5 o d f s p q g = omega arith

form_below : (f : Form) → IsFormed f → word f < 2 ^ 32
form_below (Register opcode funct3 funct7 x) (o, f, g, (rd, rs1, rs2)) = omega arith
form_below (Immediate opcode funct3 x) (o, f, (rd, rs1, k)) =
    five opcode x.rd funct3 x.rs1 (field 12 x.immediate) o rd f rs1 (field_below 12 4096 2047 x.immediate refl (omega arith) k.1)
form_below (ShiftBy opcode funct3 funct6 x) (o, f, g, (rd, rs1, amount)) = omega arith
form_below (WordShift opcode funct3 funct7 x) (o, f, g, (rd, rs1, amount)) = omega arith
form_below (Store opcode funct3 x) (o, f, (rs1, rs2, k)) =
    store_sum opcode funct3 x.rs1 x.rs2 (field 12 x.immediate) o f rs1 rs2 (field_below 12 4096 2047 x.immediate refl (omega arith) k.1)
form_below (Branch opcode funct3 x) (o, f, (rs1, rs2, k)) =
    let below : field 13 x.offset < 8192 = field_below 13 8192 4094 x.offset refl (omega arith) k.1 in
    branch_sum opcode funct3 x.rs1 x.rs2 (field 13 x.offset / 2 ^ 11 % 2) (field 13 x.offset / 2 % 2 ^ 4) (field 13 x.offset / 2 ^ 5 % 2 ^ 6) (field 13 x.offset / 2 ^ 12) o f rs1 rs2
    (omega arith) (omega arith) (omega arith) (omega arith)
form_below (Upper opcode x) (o, (rd, k)) = omega arith
form_below (Jump opcode x) (o, (rd, k)) =
    let below : field 21 x.offset < 2097152 = field_below 21 2097152 1048574 x.offset refl (omega arith) k.1 in
    jump_sum opcode x.rd (field 21 x.offset / 2 ^ 12 % 2 ^ 8) (field 21 x.offset / 2 ^ 11 % 2) (field 21 x.offset / 2 % 2 ^ 10) (field 21 x.offset / 2 ^ 20) o rd
    (omega arith) (omega arith) (omega arith) (omega arith)
form_below (Memory opcode funct3 funct5 x) (o, f, g, (rd, rs1, rs2)) =
    memory_sum opcode x.rd funct3 x.rs1 x.rs2 (from_bool x.release) (from_bool x.acquire) funct5 o rd f rs1 rs2 (bit_below x.release) (bit_below x.acquire) g
form_below (LoadReserved opcode funct3 funct5 x) (o, f, g, (rd, rs1)) =
    reserve_sum opcode x.rd funct3 x.rs1 (from_bool x.release) (from_bool x.acquire) funct5 o rd f rs1 (bit_below x.release) (bit_below x.acquire) g
form_below (Ordering opcode funct3 x) (o, f, (fm, pred, succ, rs1, rd)) = omega arith
form_below (Whole bits) v = v

-- each row of the table, by one search
formed : (i : Inst) → IsValid i → IsFormed (form i)
formed i v = grind arith

pub word_below : (i : Inst) → IsValid i → word (form i) < 2 ^ 32
word_below i v = form_below (form i) (formed i v)
