-- A word spells an `auipc` or a `jalr` exactly where its opcode and its funct3 are theirs.

use Rattle.std.proofs.Common.{◌≡◌, ℕ, ◌+◌, ◌-◌, ◌*◌, ◌/◌, ◌%◌, ◌^◌, ◌<◌, ◌≤◌, ℤ, pos, negsuc, Bool, true, false, nat_lt, Option, Some, None, if◌then◌else◌, refl, sym, ap, ◌∙◌, arith}
use Rattle.std.proofs.lemmas.Int.{ints}
use Rattle.std.specs.Prelude.{◌==◌}
use Rattle.std.proofs.lemmas.Bool.{eqb-true, eq-eqb, ltb-true, ltb-false, and_parts, and_from}
use Rattle.rv_isa.specs.declared.instruction.Inst.{Inst}
use Rattle.rv_isa.specs.declared.instruction.Inst.TheVariants as isa
use Rattle.rv_isa.specs.Ranges.{IsSigned12}
use Rattle.rv_isa_laws.specs.Word.{field, Spells, IsSpelled}
use Rattle.rv_link_laws.specs.CallSites as laws
use Rattle.rv_link_sites.specs.Spelled.{is_auipc, is_jalr, spells_one}

-- a test of words that holds exactly where a word spells one of certain instructions
pub by_answer : (right : Inst → Bool) (found : Option Inst) (w : ℕ) (test : Bool) → IsSpelled found w
    → (test ≡ true → (i : Inst) × Spells w i × (right i ≡ true))
    → ((i : Inst) → Spells w i → right i ≡ true → test ≡ true)
    → spells_one right found ≡ test
by_answer right found w true h there back =
    let spelled = there refl in ap (spells_one right) ((h spelled.0).1 spelled.1) ∙ spelled.2
by_answer right None w false h there back = refl
by_answer right (Some i) w false h there back = never (right i) (back i ((h i).0 refl))
  where
    never : (b : Bool) → (b ≡ true → false ≡ true) → b ≡ false
    never true f = sym (f refl)
    never false f = refl

-- ---- auipc

auipc_there : (w : ℕ) → w < 2 ^ 32 → laws.is_auipc w ≡ true → (i : Inst) × Spells w i × (is_auipc i ≡ true)
auipc_there w low is =
    let code : w / 2 ^ 0 % 2 ^ 7 ≡ 0x17 = eqb-true (w / 2 ^ 0 % 2 ^ 7) 0x17 is in (
      isa.Auipc (record { rd = w / 2 ^ 7 % 32; immediate = w / 2 ^ 12 }),
      record { valid = (omega arith, omega (arith, low)); sum = omega (arith, code) },
      refl,
    )

auipc_back : (w : ℕ) (i : Inst) → Spells w i → is_auipc i ≡ true → laws.is_auipc w ≡ true
auipc_back w (isa.Auipc x) s right =
    let sum : 0x17 + x.rd * 2 ^ 7 + x.immediate * 2 ^ 12 ≡ w = s.sum in
    eq-eqb (w / 2 ^ 0 % 2 ^ 7) 0x17 (omega (arith, sum))
auipc_back w _ s right = absurd (cc)

pub auipc_spelled : (found : Option Inst) (w : ℕ) → w < 2 ^ 32 → IsSpelled found w → spells_one is_auipc found ≡ laws.is_auipc w
auipc_spelled found w low h = by_answer is_auipc found w (laws.is_auipc w) h (auipc_there w low) (auipc_back w)

-- ---- jalr

-- a number of 12 bits in two's complement
abbrev signed : ℕ → ℤ
signed n = if nat_lt n 2048 then pos n else negsuc (4095 - n)

signed_field : (n : ℕ) → n < 4096 → IsSigned12 (signed n) × (field 12 (signed n) ≡ n)
signed_field n low = by (nat_lt n 2048) (ltb-true n 2048) (ltb-false n 2048)
  where
    by : (b : Bool) → (b ≡ true → n < 2048) → (b ≡ false → 2048 ≤ n)
        → IsSigned12 (if b then pos n else negsuc (4095 - n)) × (field 12 (if b then pos n else negsuc (4095 - n)) ≡ n)
    by true less more = let below = less refl in ((omega (arith, ints), omega (arith, ints, below)), refl)
    by false less more = let above = more refl in ((omega (arith, ints, low, above), omega (arith, ints)), omega (arith, low, above))

jalr_there : (w : ℕ) → w < 2 ^ 32 → laws.is_jalr w ≡ true → (i : Inst) × Spells w i × (is_jalr i ≡ true)
jalr_there w low is =
    let both = and_parts (laws.opcode w == laws.opcode laws.jalr_word) (laws.funct3 w == laws.funct3 laws.jalr_word) is in
    let code : w / 2 ^ 0 % 2 ^ 7 ≡ 0x67 = eqb-true (w / 2 ^ 0 % 2 ^ 7) 0x67 both.0 in
    let selector : w / 2 ^ 12 % 2 ^ 3 ≡ 0 = eqb-true (w / 2 ^ 12 % 2 ^ 3) 0 both.1 in
    let signs = signed_field (w / 2 ^ 20) (omega (arith, low)) in
    let same : field 12 (signed (w / 2 ^ 20)) ≡ w / 2 ^ 20 = signs.1 in
    let whole : 0x67 + w / 2 ^ 7 % 32 * 2 ^ 7 + 0 * 2 ^ 12 + w / 2 ^ 15 % 32 * 2 ^ 15 + w / 2 ^ 20 * 2 ^ 20 ≡ w = omega (arith, code, selector) in (
      isa.Jalr (record { rd = w / 2 ^ 7 % 32; rs1 = w / 2 ^ 15 % 32; immediate = signed (w / 2 ^ 20) }),
      record {
        valid = (omega arith, omega arith, signs.0);
        sum = ap (λ n. 0x67 + w / 2 ^ 7 % 32 * 2 ^ 7 + 0 * 2 ^ 12 + w / 2 ^ 15 % 32 * 2 ^ 15 + n * 2 ^ 20) same ∙ whole;
      },
      refl,
    )

jalr_back : (w : ℕ) (i : Inst) → Spells w i → is_jalr i ≡ true → laws.is_jalr w ≡ true
jalr_back w (isa.Jalr x) s right =
    let sum : 0x67 + x.rd * 2 ^ 7 + 0 * 2 ^ 12 + x.rs1 * 2 ^ 15 + field 12 x.immediate * 2 ^ 20 ≡ w = s.sum in
    let rd : x.rd < 2 ^ 5 = s.valid.0 in
    let rs1 : x.rs1 < 2 ^ 5 = s.valid.1 in
    and_from (laws.opcode w == laws.opcode laws.jalr_word) (laws.funct3 w == laws.funct3 laws.jalr_word)
    (eq-eqb (w / 2 ^ 0 % 2 ^ 7) 0x67 (omega (arith, sum)))
    (eq-eqb (w / 2 ^ 12 % 2 ^ 3) 0 (omega (arith, sum, rd, rs1)))
jalr_back w _ s right = absurd (cc)

pub jalr_spelled : (found : Option Inst) (w : ℕ) → w < 2 ^ 32 → IsSpelled found w → spells_one is_jalr found ≡ laws.is_jalr w
jalr_spelled found w low h = by_answer is_jalr found w (laws.is_jalr w) h (jalr_there w low) (jalr_back w)
