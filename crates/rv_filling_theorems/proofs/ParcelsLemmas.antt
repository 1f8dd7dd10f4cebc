-- Parcels whose offsets are set.
use Rattle.std.proofs.Common.{◌≡◌, ℕ, ◌+◌, ◌*◌, ◌/◌, ◌%◌, ◌^◌, ◌<◌, ℤ, pos, negsuc, ◌≤ℤ◌, ap, ◌∙◌, arith}
use Rattle.std.proofs.lemmas.Int.{ints}
use Rattle.rv_isa_laws.specs.Bytes.{little_endian, number_in}
use Rattle.rv_isa_laws.specs.Word.{field}
use Rattle.rv_parcel.specs.Parcel.{branch_offset, jump_offset}
use Rattle.rv_reloc_laws.specs.Fields.{modulo, with_immediate, cb_type, cj_type}

-- in range, two's complement is the number modulo the field's width
pub field_9 : (v : ℤ) → negsuc 255 ≤ℤ v → v ≤ℤ pos 254 → modulo 9 v ≡ field 9 v
field_9 (pos n) low high = omega (arith, ints)
field_9 (negsuc n) low high = omega (arith, ints)

pub field_12 : (v : ℤ) → negsuc 2047 ≤ℤ v → v ≤ℤ pos 2046 → modulo 12 v ≡ field 12 v
field_12 (pos n) low high = omega (arith, ints)
field_12 (negsuc n) low high = omega (arith, ints)

-- a number's two bytes have it
pub two_bytes : (n : ℕ) → n < 2 ^ 16 → number_in (little_endian 2 n) ≡ n
two_bytes n h = omega arith

-- c.beqz and c.bnez, by what stood at the pieces of their offset
cb_digits : (funct3 r n a b c d e : ℕ) → funct3 < 2 ^ 3 → r < 2 ^ 3 → a < 2 ^ 1 → b < 2 ^ 2 → c < 2 ^ 2 → d < 2 ^ 2 → e < 2 ^ 1 → with_immediate cb_type n (1 + funct3 * 2 ^ 13 + (a * 2 ^ 12 + b * 2 ^ 10 + c * 2 ^ 5 + d * 2 ^ 3 + e * 2 ^ 2) + r * 2 ^ 7) ≡ 1 + funct3 * 2 ^ 13 + branch_offset n + r * 2 ^ 7
cb_digits funct3 r n a b c d e h1 h2 h3 h4 h5 h6 h7 = omega arith

pub cb_set : (funct3 r n old : ℕ) → funct3 < 2 ^ 3 → r < 2 ^ 3 → with_immediate cb_type n (1 + funct3 * 2 ^ 13 + branch_offset old + r * 2 ^ 7) ≡ 1 + funct3 * 2 ^ 13 + branch_offset n + r * 2 ^ 7
cb_set funct3 r n old h k =
    cb_digits funct3 r n (old / 2 ^ 8 % 2 ^ 1) (old / 2 ^ 3 % 2 ^ 2) (old / 2 ^ 6 % 2 ^ 2) (old / 2 ^ 1 % 2 ^ 2) (old / 2 ^ 5 % 2 ^ 1) h k (omega arith) (omega arith) (omega arith) (omega arith) (omega arith)

-- c.j: no bits stand between the pieces
cj_gaps : (f a b c d e g h i : ℕ) → f / 2 ^ 0 % 2 ^ 2 * 2 ^ 0 + a * 2 ^ 2 + (f / 2 ^ 3 % 2 ^ 0 * 2 ^ 3 + b * 2 ^ 3 + (f / 2 ^ 6 % 2 ^ 0 * 2 ^ 6 + c * 2 ^ 6 + (f / 2 ^ 7 % 2 ^ 0 * 2 ^ 7 + d * 2 ^ 7 + (f / 2 ^ 8 % 2 ^ 0 * 2 ^ 8 + e * 2 ^ 8 + (f / 2 ^ 9 % 2 ^ 0 * 2 ^ 9 + g * 2 ^ 9 + (f / 2 ^ 11 % 2 ^ 0 * 2 ^ 11 + h * 2 ^ 11 + (f / 2 ^ 12 % 2 ^ 0 * 2 ^ 12 + i * 2 ^ 12 + (f / 2 ^ 13 * 2 ^ 13)))))))) ≡ f % 2 ^ 2 + f / 2 ^ 13 * 2 ^ 13 + (i * 2 ^ 12 + h * 2 ^ 11 + g * 2 ^ 9 + e * 2 ^ 8 + d * 2 ^ 7 + c * 2 ^ 6 + b * 2 ^ 3 + a * 2 ^ 2)
cj_gaps f a b c d e g h i = omega arith

cj_low : (a b c d e g h i : ℕ) → (40961 + (i * 2 ^ 12 + h * 2 ^ 11 + g * 2 ^ 9 + e * 2 ^ 8 + d * 2 ^ 7 + c * 2 ^ 6 + b * 2 ^ 3 + a * 2 ^ 2)) % 2 ^ 2 ≡ 1
cj_low a b c d e g h i = omega arith

cj_high : (a b c d e g h i : ℕ) → a < 2 ^ 1 → b < 2 ^ 3 → c < 2 ^ 1 → d < 2 ^ 1 → e < 2 ^ 1 → g < 2 ^ 2 → h < 2 ^ 1 → i < 2 ^ 1 → (40961 + (i * 2 ^ 12 + h * 2 ^ 11 + g * 2 ^ 9 + e * 2 ^ 8 + d * 2 ^ 7 + c * 2 ^ 6 + b * 2 ^ 3 + a * 2 ^ 2)) / 2 ^ 13 ≡ 5
cj_high a b c d e g h i ka kb kc kd ke kg kh ki = omega arith

pub cj_set : (n old : ℕ) → with_immediate cj_type n (40961 + jump_offset old) ≡ 40961 + jump_offset n
cj_set n old =
    let low = cj_low (old / 2 ^ 5 % 2 ^ 1) (old / 2 ^ 1 % 2 ^ 3) (old / 2 ^ 7 % 2 ^ 1) (old / 2 ^ 6 % 2 ^ 1) (old / 2 ^ 10 % 2 ^ 1) (old / 2 ^ 8 % 2 ^ 2) (old / 2 ^ 4 % 2 ^ 1) (old / 2 ^ 11 % 2 ^ 1) in
    let high = cj_high (old / 2 ^ 5 % 2 ^ 1) (old / 2 ^ 1 % 2 ^ 3) (old / 2 ^ 7 % 2 ^ 1) (old / 2 ^ 6 % 2 ^ 1) (old / 2 ^ 10 % 2 ^ 1) (old / 2 ^ 8 % 2 ^ 2) (old / 2 ^ 4 % 2 ^ 1) (old / 2 ^ 11 % 2 ^ 1) (omega arith) (omega arith) (omega arith) (omega arith) (omega arith) (omega arith) (omega arith) (omega arith) in
    cj_gaps (40961 + jump_offset old) (n / 2 ^ 5 % 2 ^ 1) (n / 2 ^ 1 % 2 ^ 3) (n / 2 ^ 7 % 2 ^ 1) (n / 2 ^ 6 % 2 ^ 1) (n / 2 ^ 10 % 2 ^ 1) (n / 2 ^ 8 % 2 ^ 2) (n / 2 ^ 4 % 2 ^ 1) (n / 2 ^ 11 % 2 ^ 1) ∙ ap (λ x. x + (40961 + jump_offset old) / 2 ^ 13 * 2 ^ 13 + jump_offset n) low ∙ ap (λ y. 1 + y * 2 ^ 13 + jump_offset n) high

-- parcels have two bytes
cb_below : (funct3 r old : ℕ) → funct3 < 2 ^ 3 → r < 2 ^ 3 → 1 + funct3 * 2 ^ 13 + branch_offset old + r * 2 ^ 7 < 2 ^ 16
cb_below funct3 r old h k = omega arith

pub cb_fills : (funct3 r old : ℕ) (v : ℤ) → funct3 < 2 ^ 3 → r < 2 ^ 3 → negsuc 255 ≤ℤ v → v ≤ℤ pos 254 → with_immediate cb_type (modulo 9 v) (number_in (little_endian 2 (1 + funct3 * 2 ^ 13 + branch_offset old + r * 2 ^ 7))) ≡ 1 + funct3 * 2 ^ 13 + branch_offset (field 9 v) + r * 2 ^ 7
cb_fills funct3 r old v h k low high =
    ap (with_immediate cb_type (modulo 9 v)) (two_bytes _ (cb_below funct3 r old h k))
    ∙ cb_set funct3 r (modulo 9 v) old h k
    ∙ ap (λ n. 1 + funct3 * 2 ^ 13 + branch_offset n + r * 2 ^ 7) (field_9 v low high)

cj_below : (old : ℕ) → 40961 + jump_offset old < 2 ^ 16
cj_below old = omega arith

pub cj_fills : (old : ℕ) (v : ℤ) → negsuc 2047 ≤ℤ v → v ≤ℤ pos 2046 → with_immediate cj_type (modulo 12 v) (number_in (little_endian 2 (40961 + jump_offset old))) ≡ 40961 + jump_offset (field 12 v)
cj_fills old v low high =
    ap (with_immediate cj_type (modulo 12 v)) (two_bytes _ (cj_below old))
    ∙ cj_set (modulo 12 v) old
    ∙ ap (λ n. 40961 + jump_offset n) (field_12 v low high)
