-- An exact reader of parcels, as a function of the definitions: the only form that a parcel can spell, and a test
-- whether it does.
use Rattle.std.proofs.Common.{◌≡◌, ◌↔◌, ℕ, ◌+◌, ◌*◌, ◌-◌, ◌/◌, ◌%◌, ◌^◌, ◌<◌, ℤ, pos, negsuc, unsigned_abs, Bool, true, false, ◌&&◌, ◌||◌, not, nat_eq, nat_lt, nat_le, if◌then◌else◌, Option, Some, None, subst, sym, ap, ◌∙◌, refl, eqb-true, eq-eqb, arith}
use Rattle.std.proofs.lemmas.Option.{none-some, same_Some}
use Rattle.rv_isa.specs.declared.instruction.Inst.{Inst}
use Rattle.rv_isa.specs.Ranges.{IsValid}
use Rattle.rv_isa_laws.specs.Word.{field}
use Rattle.rv_parcel.specs.declared.form.Compressed.{Compressed}
use Rattle.rv_parcel.specs.declared.form.Compressed.TheVariants.{Addi4spn, Lw, Ld, Sw, Sd, Nop, Addi, Addiw, Li, Addi16sp, Lui, Srli, Srai, Andi, Sub, Xor, Or, And, Subw, Addw, J, Beqz, Bnez, Slli, Lwsp, Ldsp, Jr, Mv, Ebreak, Jalr, Add, Swsp, Sdsp}
use Rattle.rv_parcel.specs.Parcel.{bits_at, branch_offset, stack_step, jump_offset, parcel, expansion, IsLine, IsBranch, IsJump, IsStackStep, SpellsForm, StandsFor}
use Rattle.rv_parcel.proofs.JumpLemmas.{gathered, offset-gathered, field-below}

-- the number with sign that a field of this many bits holds
abbrev signed : (width value : ℕ) → ℤ
signed width value = if nat_lt value (2 ^ (width - 1)) then pos value else negsuc (2 ^ width - 1 - value)

-- the registers at 4:2, 9:7, 11:7 and 6:2
abbrev short_low : ℕ → ℕ
short_low p = 8 + bits_at p 2 3 0

abbrev short_high : ℕ → ℕ
short_high p = 8 + bits_at p 7 3 0

abbrev high : ℕ → ℕ
high p = bits_at p 7 5 0

abbrev low : ℕ → ℕ
low p = bits_at p 2 5 0

-- the immediates
abbrev six_of : ℕ → ℕ
six_of p = bits_at p 2 5 0 + bits_at p 12 1 5

abbrev words : ℕ → ℕ
words p = bits_at p 6 1 2 + bits_at p 10 3 3 + bits_at p 5 1 6

abbrev doubles : ℕ → ℕ
doubles p = bits_at p 10 3 3 + bits_at p 5 2 6

unfoldable branch_of : ℕ → ℤ
branch_of p = signed 9 (bits_at p 3 2 1 + bits_at p 10 2 3 + bits_at p 2 1 5 + bits_at p 5 2 6 + bits_at p 12 1 8)

unfoldable step_of : ℕ → ℤ
step_of p = signed 10 (bits_at p 6 1 4 + bits_at p 2 1 5 + bits_at p 5 1 6 + bits_at p 3 2 7 + bits_at p 12 1 9)

unfoldable jump_of : ℕ → ℤ
jump_of p = signed 12 (gathered (p / 2 ^ 2 % 2 ^ 11))

-- the only form that a parcel of this quadrant and funct3 can spell
abbrev in_0 : (funct3 p : ℕ) → Compressed
in_0 f p =
    if nat_eq f 2 then Lw (short_low p) (short_high p) (words p)
    else if nat_eq f 3 then Ld (short_low p) (short_high p) (doubles p)
    else if nat_eq f 6 then Sw (short_high p) (short_low p) (words p)
    else if nat_eq f 7 then Sd (short_high p) (short_low p) (doubles p)
    else Addi4spn (short_low p) (bits_at p 6 1 2 + bits_at p 5 1 3 + bits_at p 11 2 4 + bits_at p 7 4 6)

abbrev arithmetic_of : (funct2 bit_12 p : ℕ) → Compressed
arithmetic_of k b p =
    if nat_eq b 1 then (if nat_eq k 0 then Subw (short_high p) (short_low p) else Addw (short_high p) (short_low p))
    else if nat_eq k 0 then Sub (short_high p) (short_low p)
    else if nat_eq k 1 then Xor (short_high p) (short_low p)
    else if nat_eq k 2 then Or (short_high p) (short_low p)
    else And (short_high p) (short_low p)

abbrev short_of : (funct2 p : ℕ) → Compressed
short_of k p =
    if nat_eq k 0 then Srli (short_high p) (six_of p)
    else if nat_eq k 1 then Srai (short_high p) (six_of p)
    else if nat_eq k 2 then Andi (short_high p) (signed 6 (six_of p))
    else arithmetic_of (p / 2 ^ 5 % 4) (p / 2 ^ 12 % 2) p

abbrev upper_of : ℕ → Compressed
upper_of p =
    if nat_eq (high p) 2 then Addi16sp (step_of p)
    else Lui (high p) (if nat_lt (six_of p) 32 then six_of p else six_of p + 0xfffc0)

abbrev in_1 : (funct3 p : ℕ) → Compressed
in_1 f p =
    if nat_eq f 0 then (if nat_eq (high p) 0 then Nop (signed 6 (six_of p)) else Addi (high p) (signed 6 (six_of p)))
    else if nat_eq f 1 then Addiw (high p) (signed 6 (six_of p))
    else if nat_eq f 2 then Li (high p) (signed 6 (six_of p))
    else if nat_eq f 3 then upper_of p
    else if nat_eq f 4 then short_of (p / 2 ^ 10 % 4) p
    else if nat_eq f 5 then J (jump_of p)
    else if nat_eq f 6 then Beqz (short_high p) (branch_of p)
    else Bnez (short_high p) (branch_of p)

abbrev registers_of : (bit_12 p : ℕ) → Compressed
registers_of b p =
    if nat_eq (low p) 0 then (
    if nat_eq b 0 then Jr (high p)
    else if nat_eq (high p) 0 then Ebreak
    else Jalr (high p))
    else if nat_eq b 0 then Mv (high p) (low p)
    else Add (high p) (low p)

abbrev in_2 : (funct3 p : ℕ) → Compressed
in_2 f p =
    if nat_eq f 0 then Slli (high p) (six_of p)
    else if nat_eq f 2 then Lwsp (high p) (bits_at p 4 3 2 + bits_at p 12 1 5 + bits_at p 2 2 6)
    else if nat_eq f 3 then Ldsp (high p) (bits_at p 5 2 3 + bits_at p 12 1 5 + bits_at p 2 3 6)
    else if nat_eq f 4 then registers_of (p / 2 ^ 12 % 2) p
    else if nat_eq f 6 then Swsp (low p) (bits_at p 9 4 2 + bits_at p 7 2 6)
    else Sdsp (low p) (bits_at p 10 3 3 + bits_at p 7 3 6)

abbrev candidate : (quadrant funct3 p : ℕ) → Compressed
candidate q f p = if nat_eq q 0 then in_0 f p else if nat_eq q 1 then in_1 f p else in_2 f p

-- the fields with sign, each from the sum that has it
branch-back : (p r k : ℕ) (i : ℤ) → IsBranch i → 1 + k * 2 ^ 13 + branch_offset (field 9 i) + r % 8 * 2 ^ 7 ≡ p → branch_of p ≡ i
unfolding branch_of
branch-back p r k i line sum = grind arith

step-back : (p : ℕ) (i : ℤ) → IsStackStep i → 1 + 3 * 2 ^ 13 + stack_step (field 10 i) + 2 * 2 ^ 7 ≡ p → step_of p ≡ i
unfolding step_of
step-back p i line sum = grind arith

jump-back : (p : ℕ) (i : ℤ) → IsJump i → 1 + 5 * 2 ^ 13 + jump_offset (field 12 i) ≡ p → jump_of p ≡ i
unfolding jump_of
jump-back p i line sum = signed-back i (gathered (p / 2 ^ 2 % 2 ^ 11)) line (offset-gathered (field 12 i) (p / 2 ^ 2 % 2 ^ 11) (field-below i line).0 (field-below i line).1 (eleven (jump_offset (field 12 i)) p (jump-bits (field 12 i)).0 (jump-bits (field 12 i)).1 sum))
  where
    signed-back : (i : ℤ) (u : ℕ) → IsJump i → field 12 i ≡ u → signed 12 u ≡ i
    signed-back i u line e = grind arith

    eleven : (a p : ℕ) → a < 8192 → a % 4 ≡ 0 → 1 + 5 * 2 ^ 13 + a ≡ p → a ≡ p / 2 ^ 2 % 2 ^ 11 * 4
    eleven a p below four e = omega arith

    jump-bits : (u : ℕ) → (jump_offset u < 8192) × (jump_offset u % 4 ≡ 0)
    jump-bits u = (omega arith, omega arith)

dispatch : (p q f : ℕ) (form : Compressed) → p % 4 ≡ q → p / 2 ^ 13 ≡ f → candidate q f p ≡ form → candidate (p % 4) (p / 2 ^ 13) p ≡ form
dispatch p q f form quadrant funct3 e =
    subst (λ v. candidate v (p / 2 ^ 13) p ≡ form) (sym quadrant) (subst (λ v. candidate q v p ≡ form) (sym funct3) e)

ap2z : (f : ℕ → ℤ → Compressed) {a b : ℕ} {y z : ℤ} → a ≡ b → y ≡ z → f a y ≡ f b z
ap2z f {a = a} {b = b} {y = y} {z = z} e h = ap (λ v. f v y) e ∙ ap (λ v. f b v) h

step-form : (p : ℕ) (i : ℤ) → SpellsForm p (Addi16sp i) → upper_of p ≡ Addi16sp i
step-form p i s = stack (high p) (step_of p) (grind arith) ∙ ap (λ z. Addi16sp z) (step-back p i s.line s.sum)
  where
    stack : (r : ℕ) (z : ℤ) → r ≡ 2 → (if nat_eq r 2 then Addi16sp z else Lui r (if nat_lt (six_of p) 32 then six_of p else six_of p + 0xfffc0)) ≡ Addi16sp z
    stack r z e = grind arith

spelled : (p : ℕ) (form : Compressed) → SpellsForm p form → candidate (p % 4) (p / 2 ^ 13) p ≡ form
spelled p (Addi4spn rd u) s = dispatch p 0 0 (Addi4spn rd u) (omega arith) (omega arith) (grind arith)
spelled p (Lw rd rs1 u) s = dispatch p 0 2 (Lw rd rs1 u) (omega arith) (omega arith) (grind arith)
spelled p (Ld rd rs1 u) s = dispatch p 0 3 (Ld rd rs1 u) (omega arith) (omega arith) (grind arith)
spelled p (Sw rs1 rs2 u) s = dispatch p 0 6 (Sw rs1 rs2 u) (omega arith) (omega arith) (grind arith)
spelled p (Sd rs1 rs2 u) s = dispatch p 0 7 (Sd rs1 rs2 u) (omega arith) (omega arith) (grind arith)
spelled p (Nop i) s = dispatch p 1 0 (Nop i) (omega arith) (omega arith) (grind arith)
spelled p (Addi rd i) s = dispatch p 1 0 (Addi rd i) (omega arith) (omega arith) (grind arith)
spelled p (Addiw rd i) s = dispatch p 1 1 (Addiw rd i) (omega arith) (omega arith) (grind arith)
spelled p (Li rd i) s = dispatch p 1 2 (Li rd i) (omega arith) (omega arith) (grind arith)
spelled p (Addi16sp i) s = dispatch p 1 3 (Addi16sp i) (omega arith) (omega arith) (step-form p i s)
spelled p (Lui rd u) s = dispatch p 1 3 (Lui rd u) (omega arith) (omega arith) (grind arith)
spelled p (Srli rd u) s = dispatch p 1 4 (Srli rd u) (omega arith) (omega arith) (grind arith)
spelled p (Srai rd u) s = dispatch p 1 4 (Srai rd u) (omega arith) (omega arith) (grind arith)
spelled p (Andi rd i) s = dispatch p 1 4 (Andi rd i) (omega arith) (omega arith) (grind arith)
spelled p (Sub rd rs2) s = dispatch p 1 4 (Sub rd rs2) (omega arith) (omega arith) (grind arith)
spelled p (Xor rd rs2) s = dispatch p 1 4 (Xor rd rs2) (omega arith) (omega arith) (grind arith)
spelled p (Or rd rs2) s = dispatch p 1 4 (Or rd rs2) (omega arith) (omega arith) (grind arith)
spelled p (And rd rs2) s = dispatch p 1 4 (And rd rs2) (omega arith) (omega arith) (grind arith)
spelled p (Subw rd rs2) s = dispatch p 1 4 (Subw rd rs2) (omega arith) (omega arith) (grind arith)
spelled p (Addw rd rs2) s = dispatch p 1 4 (Addw rd rs2) (omega arith) (omega arith) (grind arith)
spelled p (J i) s = dispatch p 1 5 (J i) (omega arith) (omega arith) (ap (λ z. J z) (jump-back p i s.line s.sum))
spelled p (Beqz rs1 i) s = dispatch p 1 6 (Beqz rs1 i) (omega arith) (omega arith) (ap2z (λ r z. Beqz r z) (grind arith) (branch-back p rs1 6 i s.line.1 s.sum))
spelled p (Bnez rs1 i) s = dispatch p 1 7 (Bnez rs1 i) (omega arith) (omega arith) (ap2z (λ r z. Bnez r z) (grind arith) (branch-back p rs1 7 i s.line.1 s.sum))
spelled p (Slli rd u) s = dispatch p 2 0 (Slli rd u) (omega arith) (omega arith) (grind arith)
spelled p (Lwsp rd u) s = dispatch p 2 2 (Lwsp rd u) (omega arith) (omega arith) (grind arith)
spelled p (Ldsp rd u) s = dispatch p 2 3 (Ldsp rd u) (omega arith) (omega arith) (grind arith)
spelled p (Jr rs1) s = dispatch p 2 4 (Jr rs1) (omega arith) (omega arith) (grind arith)
spelled p (Mv rd rs2) s = dispatch p 2 4 (Mv rd rs2) (omega arith) (omega arith) (grind arith)
spelled p Ebreak s = dispatch p 2 4 Ebreak (omega arith) (omega arith) (grind arith)
spelled p (Jalr rs1) s = dispatch p 2 4 (Jalr rs1) (omega arith) (omega arith) (grind arith)
spelled p (Add rd rs2) s = dispatch p 2 4 (Add rd rs2) (omega arith) (omega arith) (grind arith)
spelled p (Swsp rs2 u) s = dispatch p 2 6 (Swsp rs2 u) (omega arith) (omega arith) (grind arith)
spelled p (Sdsp rs2 u) s = dispatch p 2 7 (Sdsp rs2 u) (omega arith) (omega arith) (grind arith)

-- the tests of a form's operands
abbrev is_short : ℕ → Bool
is_short register = nat_le 8 register && nat_lt register 16

abbrev is_nonzero : ℕ → Bool
is_nonzero register = nat_lt 0 register && nat_lt register 32

abbrev is_multiple : (unit limit number : ℕ) → Bool
is_multiple unit limit number = nat_lt number limit && nat_eq (number % unit) 0

abbrev is_within : (limit : ℕ) → ℤ → Bool
is_within limit (pos n) = nat_lt n limit
is_within limit (negsuc n) = nat_lt n limit

abbrev is_line : Compressed → Bool
is_line (Addi4spn rd u) = is_short rd && is_multiple 4 1024 u && nat_lt 0 u
is_line (Lw rd rs1 u) = is_short rd && is_short rs1 && is_multiple 4 128 u
is_line (Ld rd rs1 u) = is_short rd && is_short rs1 && is_multiple 8 256 u
is_line (Sw rs1 rs2 u) = is_short rs1 && is_short rs2 && is_multiple 4 128 u
is_line (Sd rs1 rs2 u) = is_short rs1 && is_short rs2 && is_multiple 8 256 u
is_line (Nop i) = is_within 32 i
is_line (Addi rd i) = is_nonzero rd && is_within 32 i
is_line (Addiw rd i) = is_nonzero rd && is_within 32 i
is_line (Li rd i) = nat_lt rd 32 && is_within 32 i
is_line (Addi16sp i) = is_within 512 i && nat_eq (unsigned_abs i % 16) 0 && nat_lt 0 (unsigned_abs i)
is_line (Lui rd u) = nat_lt rd 32 && not (nat_eq rd 2) && (nat_lt 0 u && nat_lt u 0x20 || nat_le 0xfffe0 u && nat_lt u 0x100000)
is_line (Srli rd u) = is_short rd && nat_lt u 64
is_line (Srai rd u) = is_short rd && nat_lt u 64
is_line (Andi rd i) = is_short rd && is_within 32 i
is_line (Sub rd rs2) = is_short rd && is_short rs2
is_line (Xor rd rs2) = is_short rd && is_short rs2
is_line (Or rd rs2) = is_short rd && is_short rs2
is_line (And rd rs2) = is_short rd && is_short rs2
is_line (Subw rd rs2) = is_short rd && is_short rs2
is_line (Addw rd rs2) = is_short rd && is_short rs2
is_line (J i) = is_within 2048 i && nat_eq (unsigned_abs i % 2) 0
is_line (Beqz rs1 i) = is_short rs1 && is_within 256 i && nat_eq (unsigned_abs i % 2) 0
is_line (Bnez rs1 i) = is_short rs1 && is_within 256 i && nat_eq (unsigned_abs i % 2) 0
is_line (Slli rd u) = nat_lt rd 32 && nat_lt u 64
is_line (Lwsp rd u) = is_nonzero rd && is_multiple 4 256 u
is_line (Ldsp rd u) = is_nonzero rd && is_multiple 8 512 u
is_line (Jr rs1) = is_nonzero rs1
is_line (Mv rd rs2) = nat_lt rd 32 && is_nonzero rs2
is_line Ebreak = true
is_line (Jalr rs1) = is_nonzero rs1
is_line (Add rd rs2) = nat_lt rd 32 && is_nonzero rs2
is_line (Swsp rs2 u) = nat_lt rs2 32 && is_multiple 4 256 u
is_line (Sdsp rs2 u) = nat_lt rs2 32 && is_multiple 8 512 u

tested : (form : Compressed) → is_line form ≡ true → IsLine form
tested Ebreak h = tt
tested form h = grind arith

passes : (form : Compressed) → IsLine form → is_line form ≡ true
passes Ebreak h = refl
passes form h = grind arith

abbrev is_spelled : (p : ℕ) (form : Compressed) → Bool
is_spelled p form = is_line form && nat_eq (parcel form) p

is_spelled-sound : (p : ℕ) (form : Compressed) → is_spelled p form ≡ true → SpellsForm p form
is_spelled-sound p form h = record { line = tested form (both (is_line form) (nat_eq (parcel form) p) h).0; sum = eqb-true (parcel form) p (both (is_line form) (nat_eq (parcel form) p) h).1 }
  where
    both : (a b : Bool) → (a && b) ≡ true → (a ≡ true) × (b ≡ true)
    both a b h = grind arith

is_spelled-complete : (p : ℕ) (form : Compressed) → SpellsForm p form → is_spelled p form ≡ true
is_spelled-complete p form s = join (is_line form) (nat_eq (parcel form) p) (passes form s.line) (eq-eqb (parcel form) p s.sum)
  where
    join : (a b : Bool) → a ≡ true → b ≡ true → (a && b) ≡ true
    join a b h k = grind arith

false-true : false ≡ true → ⊥
false-true h = cc

-- what is found where the test holds
abbrev answered : Bool → Inst → Option Inst
answered true i = Some i
answered false i = None

pub reader : ℕ → Option Inst
reader p = let form = candidate (p % 4) (p / 2 ^ 13) p in answered (is_spelled p form) (expansion form)

pub reader-exact : (p : ℕ) (i : Inst) → reader p ≡ Some i ↔ StandsFor p i
unfolding reader
reader-exact p i =
    exact (candidate (p % 4) (p / 2 ^ 13) p) (is_spelled p (candidate (p % 4) (p / 2 ^ 13) p)) refl (λ form s. spelled p form s)
  where
    exact : (form : Compressed) (test : Bool) → is_spelled p form ≡ test → ((other : Compressed) → SpellsForm p other → form ≡ other) → answered test (expansion form) ≡ Some i ↔ StandsFor p i
    exact form true e only = (λ h. record { form = form; spells = is_spelled-sound p form e; same = same_Some (expansion form) i h }, λ s. ap (λ v. Some (expansion v)) (only s.form s.spells) ∙ ap (λ v. Some v) s.same)
    exact form false e only = (λ h. absurd (none-some i h), λ s. absurd (false-true (sym e ∙ is_spelled-complete p form (subst (λ v. SpellsForm p v) (sym (only s.form s.spells)) s.spells))))

pub expanded-valid : (form : Compressed) → IsLine form → IsValid (expansion form)
expanded-valid Ebreak line = tt
expanded-valid form line = grind arith

pub stands-valid : (p : ℕ) (i : Inst) → StandsFor p i → IsValid i
stands-valid p i s = subst (λ v. IsValid v) s.same (expanded-valid s.form s.spells.line)
