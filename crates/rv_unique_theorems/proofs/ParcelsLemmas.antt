-- The parcel that is chosen for an instruction is the only one.

use Rattle.std.proofs.Common.{◌≡◌, ℕ, ◌≤◌, Bool, true, false, refl, sym, ap, ◌∙◌, arith}
use Rattle.std.proofs.lemmas.Bool.{eq-eqb, le-leb, leb-true, ne_eqb}
use Rattle.std.proofs.lemmas.Int.{ints}
use Rattle.std.specs.Prelude.{ℤ, pos, negsuc, unsigned_abs, nat_le, ◌==◌, if◌then◌else◌}
use Rattle.rv_isa.specs.declared.instruction.Inst.{Inst}
use Rattle.rv_isa.specs.declared.instruction.Inst.TheVariants as isa
use Rattle.rv_parcel.specs.declared.form.Compressed.{Compressed}
use Rattle.rv_parcel.specs.declared.form.Compressed.TheVariants.{Addi4spn, Lw, Ld, Sw, Sd, Nop, Addi, Addiw, Li, Addi16sp, Lui, Srli, Srai, Andi, Sub, Xor, Or, And, Subw, Addw, J, Beqz, Bnez, Slli, Lwsp, Ldsp, Jr, Mv, Ebreak, Jalr, Add, Swsp, Sdsp}
use Rattle.rv_parcel.specs.Parcel.{parcel, IsSixBits, IsLine, IsChosen, IsShortOf, expansion}

-- ---- tests

abbrev is_six : ℤ → Bool
is_six (pos n) = nat_le n 31
is_six (negsuc n) = nat_le n 31

six_yes : (i : ℤ) → IsSixBits i → is_six i ≡ true
six_yes (pos n) (a, b) = le-leb n 31 (omega (arith, ints, a, b))
six_yes (negsuc n) (a, b) = le-leb n 31 (omega (arith, ints, a, b))

six_no : (i : ℤ) → (IsSixBits i → ⊥) → is_six i ≡ false
six_no (pos n) f = go (nat_le n 31) refl
  where
    go : (b : Bool) → nat_le n 31 ≡ b → nat_le n 31 ≡ false
    go true e = absurd (f (let low : n ≤ 31 = leb-true n 31 e in (omega (arith, ints, low), omega (arith, ints, low))))
    go false e = e
six_no (negsuc n) f = go (nat_le n 31) refl
  where
    go : (b : Bool) → nat_le n 31 ≡ b → nat_le n 31 ≡ false
    go true e = absurd (f (let low : n ≤ 31 = leb-true n 31 e in (omega (arith, ints, low), omega (arith, ints, low))))
    go false e = e

yes_if : (b : Bool) (f g : Compressed) → b ≡ true → f ≡ (if b then f else g)
yes_if true f g e = refl
yes_if false f g e = absurd (cc)

no_if : (b : Bool) (f g : Compressed) → b ≡ false → g ≡ (if b then f else g)
no_if true f g e = absurd (cc)
no_if false f g e = refl

-- ---- the form that is chosen, by the instruction

abbrev adds : (rd rs1 : ℕ) → ℤ → Compressed
adds rd rs1 i =
    if rs1 == 0 then (if rd == 0 then Nop i else Li rd i)
    else if rs1 == rd then (if is_six i then Addi rd i else Addi16sp i)
    else Addi4spn rd (unsigned_abs i)

abbrev form_for : Inst → Compressed
form_for (isa.Addi x) = adds x.rd x.rs1 x.immediate
form_for (isa.Lw x) = if x.rs1 == 2 then Lwsp x.rd (unsigned_abs x.immediate) else Lw x.rd x.rs1 (unsigned_abs x.immediate)
form_for (isa.Ld x) = if x.rs1 == 2 then Ldsp x.rd (unsigned_abs x.immediate) else Ld x.rd x.rs1 (unsigned_abs x.immediate)
form_for (isa.Sw x) = if x.rs1 == 2 then Swsp x.rs2 (unsigned_abs x.immediate) else Sw x.rs1 x.rs2 (unsigned_abs x.immediate)
form_for (isa.Sd x) = if x.rs1 == 2 then Sdsp x.rs2 (unsigned_abs x.immediate) else Sd x.rs1 x.rs2 (unsigned_abs x.immediate)
form_for (isa.Addiw x) = Addiw x.rd x.immediate
form_for (isa.Lui x) = Lui x.rd x.immediate
form_for (isa.Srli x) = Srli x.rd x.amount
form_for (isa.Srai x) = Srai x.rd x.amount
form_for (isa.Andi x) = Andi x.rd x.immediate
form_for (isa.Sub x) = Sub x.rd x.rs2
form_for (isa.Xor x) = Xor x.rd x.rs2
form_for (isa.Or x) = Or x.rd x.rs2
form_for (isa.And x) = And x.rd x.rs2
form_for (isa.Subw x) = Subw x.rd x.rs2
form_for (isa.Addw x) = Addw x.rd x.rs2
form_for (isa.Jal x) = J x.offset
form_for (isa.Beq x) = Beqz x.rs1 x.offset
form_for (isa.Bne x) = Bnez x.rs1 x.offset
form_for (isa.Slli x) = Slli x.rd x.amount
form_for (isa.Jalr x) = if x.rd == 0 then Jr x.rs1 else Jalr x.rs1
form_for (isa.Add x) = if x.rs1 == 0 then Mv x.rd x.rs2 else Add x.rd x.rs2
form_for _ = Ebreak

-- an addition of a number to its own register, which is not x0
own_adds : (rd : ℕ) (i : ℤ) (f : Compressed) → (rd ≡ 0 → ⊥) → f ≡ (if is_six i then Addi rd i else Addi16sp i) → f ≡ adds rd rd i
own_adds rd i f some e =
    e ∙ yes_if (rd == rd) (if is_six i then Addi rd i else Addi16sp i) (Addi4spn rd (unsigned_abs i)) (eq-eqb rd rd refl)
    ∙ no_if (rd == 0) (if rd == 0 then Nop i else Li rd i) _ (ne_eqb rd 0 some)

chosen_form : (f : Compressed) → IsLine f → IsChosen f → f ≡ form_for (expansion f)
chosen_form (Addi4spn rd u) ((low, high), m, some) c =
    no_if (2 == rd) (if is_six (pos u) then Addi rd (pos u) else Addi16sp (pos u)) (Addi4spn rd u) (ne_eqb 2 rd (λ e. absurd (omega (arith, e, low))))
chosen_form (Lw rd rs1 u) (a, (low, high), m) c = no_if (rs1 == 2) (Lwsp rd u) (Lw rd rs1 u) (ne_eqb rs1 2 (λ e. absurd (omega (arith, e, low))))
chosen_form (Ld rd rs1 u) (a, (low, high), m) c = no_if (rs1 == 2) (Ldsp rd u) (Ld rd rs1 u) (ne_eqb rs1 2 (λ e. absurd (omega (arith, e, low))))
chosen_form (Sw rs1 rs2 u) ((low, high), a, m) c = no_if (rs1 == 2) (Swsp rs2 u) (Sw rs1 rs2 u) (ne_eqb rs1 2 (λ e. absurd (omega (arith, e, low))))
chosen_form (Sd rs1 rs2 u) ((low, high), a, m) c = no_if (rs1 == 2) (Sdsp rs2 u) (Sd rs1 rs2 u) (ne_eqb rs1 2 (λ e. absurd (omega (arith, e, low))))
chosen_form (Nop i) l c = refl
chosen_form (Addi rd i) ((some, below), six) c =
    own_adds rd i (Addi rd i) (λ e. absurd (omega (arith, e, some))) (yes_if (is_six i) (Addi rd i) (Addi16sp i) (six_yes i six))
chosen_form (Addiw rd i) l c = refl
chosen_form (Li rd i) l some = no_if (rd == 0) (Nop i) (Li rd i) (ne_eqb rd 0 (λ e. absurd (omega (arith, e, some))))
chosen_form (Addi16sp i) l c = no_if (is_six i) (Addi 2 i) (Addi16sp i) (six_no i c)
chosen_form (Lui rd u) l c = refl
chosen_form (Srli rd u) l c = refl
chosen_form (Srai rd u) l c = refl
chosen_form (Andi rd i) l c = refl
chosen_form (Sub rd rs2) l c = refl
chosen_form (Xor rd rs2) l c = refl
chosen_form (Or rd rs2) l c = refl
chosen_form (And rd rs2) l c = refl
chosen_form (Subw rd rs2) l c = refl
chosen_form (Addw rd rs2) l c = refl
chosen_form (J i) l c = refl
chosen_form (Beqz rs1 i) l c = refl
chosen_form (Bnez rs1 i) l c = refl
chosen_form (Slli rd u) l c = refl
chosen_form (Lwsp rd u) l c = refl
chosen_form (Ldsp rd u) l c = refl
chosen_form (Jr rs1) l c = refl
chosen_form (Mv rd rs2) l c = refl
chosen_form Ebreak l c = refl
chosen_form (Jalr rs1) l c = refl
chosen_form (Add rd rs2) l some = no_if (rd == 0) (Mv rd rs2) (Add rd rs2) (ne_eqb rd 0 (λ e. absurd (omega (arith, e, some))))
chosen_form (Swsp rs2 u) l c = refl
chosen_form (Sdsp rs2 u) l c = refl

pub one_parcel : (i : Inst) (p q : ℕ) → IsShortOf i p → IsShortOf i q → p ≡ q
one_parcel i p q f g =
    sym f.spells.sum
    ∙ ap parcel (chosen_form f.form f.spells.line f.chosen ∙ ap form_for (f.same ∙ sym g.same) ∙ sym (chosen_form g.form g.spells.line g.chosen))
    ∙ g.spells.sum
