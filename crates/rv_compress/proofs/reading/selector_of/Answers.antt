use Rattle.std.specs.Prelude.{◌≡◌, ℕ, ◌+◌, ◌*◌, ◌/◌, ◌%◌, ◌<◌}
use Rattle.std.specs.Int.Bits.{bit_and, bit_or, or_shifted_r}
use Rattle.std.proofs.lemmas.Nat.{and_mask}
use Rattle.std.proofs.Common.{◌∙◌, ap, arith, rules}
use Rattle.rv_compress.proofs.reading.selector_of.Goals as goal

-- the three bits of funct3 come to the low end, and the two of the quadrant after them
turned : (p : ℕ) → p < 65536 →
    bit_and (bit_or (p / 8192) (p * 8 % 65536)) 31 ≡ p % 4 * 8 + p / 8192
turned p low =
    let high : p / 8192 < 8 = omega arith in
    let cut : p * 8 % 65536 ≡ p % 8192 * 8 = omega arith in
    let joined : bit_or (p / 8192) (p * 8 % 65536) ≡ p % 8192 * 8 + p / 8192 =
    ap (bit_or (p / 8192)) cut ∙ or_shifted_r (p % 8192) 3 (p / 8192) high in
    let masked : (p % 8192 * 8 + p / 8192) % 32 ≡ p % 4 * 8 + p / 8192 = omega arith in
    ap (λ n. bit_and n 31) joined ∙ (and_mask (p % 8192 * 8 + p / 8192) 5 ∙ masked)

pub returns : goal.returns
returns c = turned c.args.parcel (search rules)
