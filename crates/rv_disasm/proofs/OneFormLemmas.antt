-- A parcel spells one form at most that is no HINT.

use Rattle.std.proofs.Common.{◌≡◌, ℕ, ◌/◌, ◌^◌, Bool, Some, refl, sym, ap, ◌∙◌, arith}
use Rattle.std.proofs.lemmas.Option.{same_Some}
use Rattle.std.specs.Prelude.{ℤ, unsigned_abs, ◌==◌, if◌then◌else◌}
use Rattle.rv_isa.specs.declared.instruction.Inst.{Inst}
use Rattle.rv_isa.specs.declared.instruction.Inst.TheVariants as isa
use Rattle.rv_parcel.specs.declared.form.Compressed.{Compressed}
use Rattle.rv_parcel.specs.declared.form.Compressed.TheVariants.{Addi4spn, Lw, Ld, Sw, Sd, Nop, Addi, Addiw, Li, Addi16sp, Lui, Srli, Srai, Andi, Sub, Xor, Or, And, Subw, Addw, J, Beqz, Bnez, Slli, Lwsp, Ldsp, Jr, Mv, Ebreak, Jalr, Add, Swsp, Sdsp}
use Rattle.rv_parcel.specs.Parcel.{expansion, IsNoHint, SpellsForm}
use Rattle.rv_parcel.proofs.ReaderLemmas.{reader, reader-exact}

-- whether the parcel has the funct3 of c.addi16sp
abbrev is_step : ℕ → Bool
is_step p = p / 2 ^ 13 == 3

-- the form by the instruction that it stands for
abbrev adds : Bool → (rd rs1 : ℕ) → ℤ → Compressed
adds step rd rs1 i =
    if rs1 == 0 then (if rd == 0 then Nop i else Li rd i)
    else if rs1 == rd then (if step then Addi16sp i else Addi rd i)
    else Addi4spn rd (unsigned_abs i)

abbrev form_for : Bool → Inst → Compressed
form_for step (isa.Addi x) = adds step x.rd x.rs1 x.immediate
form_for step (isa.Lw x) = if x.rs1 == 2 then Lwsp x.rd (unsigned_abs x.immediate) else Lw x.rd x.rs1 (unsigned_abs x.immediate)
form_for step (isa.Ld x) = if x.rs1 == 2 then Ldsp x.rd (unsigned_abs x.immediate) else Ld x.rd x.rs1 (unsigned_abs x.immediate)
form_for step (isa.Sw x) = if x.rs1 == 2 then Swsp x.rs2 (unsigned_abs x.immediate) else Sw x.rs1 x.rs2 (unsigned_abs x.immediate)
form_for step (isa.Sd x) = if x.rs1 == 2 then Sdsp x.rs2 (unsigned_abs x.immediate) else Sd x.rs1 x.rs2 (unsigned_abs x.immediate)
form_for step (isa.Addiw x) = Addiw x.rd x.immediate
form_for step (isa.Lui x) = Lui x.rd x.immediate
form_for step (isa.Srli x) = Srli x.rd x.amount
form_for step (isa.Srai x) = Srai x.rd x.amount
form_for step (isa.Andi x) = Andi x.rd x.immediate
form_for step (isa.Sub x) = Sub x.rd x.rs2
form_for step (isa.Xor x) = Xor x.rd x.rs2
form_for step (isa.Or x) = Or x.rd x.rs2
form_for step (isa.And x) = And x.rd x.rs2
form_for step (isa.Subw x) = Subw x.rd x.rs2
form_for step (isa.Addw x) = Addw x.rd x.rs2
form_for step (isa.Jal x) = J x.offset
form_for step (isa.Beq x) = Beqz x.rs1 x.offset
form_for step (isa.Bne x) = Bnez x.rs1 x.offset
form_for step (isa.Slli x) = Slli x.rd x.amount
form_for step (isa.Jalr x) = if x.rd == 0 then Jr x.rs1 else Jalr x.rs1
form_for step (isa.Add x) = if x.rs1 == 0 then Mv x.rd x.rs2 else Add x.rd x.rs2
form_for step _ = Ebreak

form_is : (p : ℕ) (f : Compressed) → SpellsForm p f → IsNoHint f → f ≡ form_for (is_step p) (expansion f)
form_is p f s n = grind arith

stands : (p : ℕ) (f : Compressed) → SpellsForm p f → reader p ≡ Some (expansion f)
stands p f s = (reader-exact p (expansion f)).1 (record { form = f; spells = s; same = refl })

pub one_form : (p : ℕ) (f g : Compressed) → SpellsForm p f → IsNoHint f → SpellsForm p g → IsNoHint g → f ≡ g
one_form p f g s n t m =
    form_is p f s n
    ∙ ap (form_for (is_step p)) (same_Some (expansion f) (expansion g) (sym (stands p f s) ∙ stands p g t))
    ∙ sym (form_is p g t m)
