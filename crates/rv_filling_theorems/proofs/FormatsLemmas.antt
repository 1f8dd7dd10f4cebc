-- The laws, a line a format.
use Rattle.std.proofs.Common.{◌≡◌, ℕ, ◌+◌, ◌*◌, ◌/◌, ◌%◌, ◌^◌, ◌<◌, ℤ, pos, negsuc, ◌≤ℤ◌, ap, ◌∙◌, arith}
use Rattle.std.proofs.lemmas.Int.{ints}
use Rattle.rv_isa_laws.specs.Bytes.{little_endian, number_in}
use Rattle.rv_isa_laws.specs.Word.{Branch, field, word}
use Rattle.rv_parcel.specs.declared.form.Compressed.TheVariants.{Beqz, Bnez}
use Rattle.rv_reloc_laws.specs.Fields.{modulo, with_immediate, b_type}
use Rattle.rv_filling_theorems.specs.Formats.{BranchesFill, JumpsFill, UppersFill, ImmediatesFill, StoresFill, CallsFill, ShortBranchesFill, ShortJumpsFill}
use Rattle.rv_filling_theorems.proofs.FieldsLemmas.{lo_field}
use Rattle.rv_filling_theorems.proofs.ParcelsLemmas.{cb_fills, cj_fills}

-- in range, two's complement is the number modulo the field's width
field_13 : (v : ℤ) → negsuc 4095 ≤ℤ v → v ≤ℤ pos 4094 → (modulo 13 v ≡ field 13 v) × (field 13 v < 2 ^ 13)
field_13 (pos n) low high = (omega (arith, ints), omega (arith, ints))
field_13 (negsuc n) low high = (omega (arith, ints), omega (arith, ints))

-- a number's four bytes have it
four_bytes : (n : ℕ) → n < 2 ^ 32 → number_in (little_endian 4 n) ≡ n
four_bytes n h = omega arith

-- a branch, by what stood at the pieces of its offset
b_digits : (opcode funct3 r s n a b c d : ℕ) → opcode < 2 ^ 7 → funct3 < 2 ^ 3 → r < 32 → s < 32 → n < 2 ^ 13 → a < 2 → b < 2 ^ 4 → c < 2 ^ 6 → d < 2
    → with_immediate b_type n (opcode + a * 2 ^ 7 + b * 2 ^ 8 + funct3 * 2 ^ 12 + r * 2 ^ 15 + s * 2 ^ 20 + c * 2 ^ 25 + d * 2 ^ 31)
    ≡ opcode + n / 2 ^ 11 % 2 * 2 ^ 7 + n / 2 % 2 ^ 4 * 2 ^ 8 + funct3 * 2 ^ 12 + r * 2 ^ 15 + s * 2 ^ 20 + n / 2 ^ 5 % 2 ^ 6 * 2 ^ 25 + n / 2 ^ 12 * 2 ^ 31
b_digits opcode funct3 r s n a b c d o f g h k p q t u = omega arith

b_below : (opcode funct3 r s a b c d : ℕ) → opcode < 2 ^ 7 → funct3 < 2 ^ 3 → r < 32 → s < 32 → a < 2 → b < 2 ^ 4 → c < 2 ^ 6 → d < 2
    → opcode + a * 2 ^ 7 + b * 2 ^ 8 + funct3 * 2 ^ 12 + r * 2 ^ 15 + s * 2 ^ 20 + c * 2 ^ 25 + d * 2 ^ 31 < 2 ^ 32
b_below opcode funct3 r s a b c d o f g h p q t u = omega arith

b_fills : (opcode funct3 r s old : ℕ) (v : ℤ) → opcode < 2 ^ 7 → funct3 < 2 ^ 3 → r < 32 → s < 32 → old < 2 ^ 13 → negsuc 4095 ≤ℤ v → v ≤ℤ pos 4094
    → with_immediate b_type (modulo 13 v) (number_in (little_endian 4
    (opcode + old / 2 ^ 11 % 2 * 2 ^ 7 + old / 2 % 2 ^ 4 * 2 ^ 8 + funct3 * 2 ^ 12 + r * 2 ^ 15 + s * 2 ^ 20 + old / 2 ^ 5 % 2 ^ 6 * 2 ^ 25 + old / 2 ^ 12 * 2 ^ 31)))
    ≡ word (Branch opcode funct3 (record { offset = v; rs1 = r; rs2 = s }))
b_fills opcode funct3 r s old v o f g h below low high =
    let a : old / 2 ^ 11 % 2 < 2 = omega arith in
    let b : old / 2 % 2 ^ 4 < 2 ^ 4 = omega arith in
    let c : old / 2 ^ 5 % 2 ^ 6 < 2 ^ 6 = omega arith in
    let d : old / 2 ^ 12 < 2 = omega arith in
    let n = field_13 v low high in
    ap (with_immediate b_type (modulo 13 v)) (four_bytes _ (b_below opcode funct3 r s (old / 2 ^ 11 % 2) (old / 2 % 2 ^ 4) (old / 2 ^ 5 % 2 ^ 6) (old / 2 ^ 12) o f g h a b c d))
    ∙ ap (λ n. with_immediate b_type n
    (opcode + old / 2 ^ 11 % 2 * 2 ^ 7 + old / 2 % 2 ^ 4 * 2 ^ 8 + funct3 * 2 ^ 12 + r * 2 ^ 15 + s * 2 ^ 20 + old / 2 ^ 5 % 2 ^ 6 * 2 ^ 25 + old / 2 ^ 12 * 2 ^ 31)) n.0
    ∙ b_digits opcode funct3 r s (field 13 v) (old / 2 ^ 11 % 2) (old / 2 % 2 ^ 4) (old / 2 ^ 5 % 2 ^ 6) (old / 2 ^ 12) o f g h n.1 a b c d

pub branches : BranchesFill
branches opcode funct3 x v selectors valid takes =
    ap (little_endian 4)
    (b_fills opcode funct3 x.rs1 x.rs2 (field 13 x.offset) v selectors.0 selectors.1 valid.0 valid.1 (field_13 x.offset valid.2.0 valid.2.1).1 takes.range.0 takes.range.1)

pub jumps : JumpsFill
jumps opcode x v below valid takes = grind arith

pub uppers : UppersFill
uppers k opcode x v upper below valid takes = grind arith

pub immediates : ImmediatesFill
immediates k opcode funct3 x v lower selectors valid takes = let same = lo_field v in grind arith

pub stores : StoresFill
stores k opcode funct3 x v lower selectors valid takes = let same = lo_field v in grind arith

pub calls : CallsFill
calls k auipc jalr funct3 x y v call below selectors upper valid takes = let same = lo_field v in grind arith

pub zero : ShortBranchesFill Beqz
zero rs1 old v line takes = ap (little_endian 2) (cb_fills 6 (rs1 % 8) (field 9 old) v (omega arith) (omega arith) takes.range.0 takes.range.1)

pub nonzero : ShortBranchesFill Bnez
nonzero rs1 old v line takes = ap (little_endian 2) (cb_fills 7 (rs1 % 8) (field 9 old) v (omega arith) (omega arith) takes.range.0 takes.range.1)

pub short_jumps : ShortJumpsFill
short_jumps old v line takes = ap (little_endian 2) (cj_fills (field 12 old) v takes.range.0 takes.range.1)
