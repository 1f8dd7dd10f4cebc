-- The offset of c.j: what is gathered from its eleven bits scatters back to them, and the other way round.
-- Each is a table of 2,048 lines that the check computes.
use Rattle.std.proofs.Common.{◌≡◌, ℕ, zero, suc, Bool, true, ◌&&◌, nat_eq, ◌+◌, ◌*◌, ◌/◌, ◌%◌, ◌^◌, ◌<◌, ◌≤◌, ℤ, pos, negsuc, ◌≤ℤ◌, eqb-true, sym, refl, ap, subst, ◌∙◌, arith, inl, inr}
use Rattle.std.proofs.lemmas.Bool.{and_parts, cases_lt}
use Rattle.std.proofs.Math.Nat.{pow-suc}
use Rattle.rv_parcel.specs.declared.form.Compressed.{Compressed}
use Rattle.rv_parcel.specs.declared.form.Compressed.TheVariants.{J}
use Rattle.rv_isa_laws.specs.Word.{field}
use Rattle.rv_parcel.specs.Parcel.{bits_at, jump_offset, IsJump, SpellsForm, IsForm}

-- a test holds of each of the 2 ^ k numbers from `first` on
unfoldable all_from : (ℕ → Bool) → (k first : ℕ) → Bool
all_from f zero first = f first
all_from f (suc k) first = all_from f k first && all_from f k (first + 2 ^ k)

within : (f : ℕ → Bool) (k first x : ℕ) → all_from f k first ≡ true → first ≤ x → x < first + 2 ^ k → f x ≡ true
unfolding all_from
within f zero first x h low high = grind arith
within f (suc k) first x h low high =
    elim (cases_lt x (first + 2 ^ k)) [ inl below ↦ within f k first x (and_parts _ _ h).0 low below | inr above ↦ within f k (first + 2 ^ k) x (and_parts _ _ h).1 above (omega (arith, pow-suc)) ]

-- the offset whose eleven bits are `f`
abbrev pub gathered : ℕ → ℕ
gathered f =
    bits_at f 1 3 1 + bits_at f 9 1 4 + bits_at f 0 1 5 + bits_at f 5 1 6 + bits_at f 4 1 7 + bits_at f 7 2 8 + bits_at f 6 1 10 + bits_at f 10 1 11

abbrev scatters : ℕ → Bool
scatters f = nat_eq (jump_offset (gathered f)) (f * 4)

scatters-each : all_from scatters 11 0 ≡ true
unfolding all_from
scatters-each = refl

scattered-back : (f : ℕ) → f < 2048 → jump_offset (gathered f) ≡ f * 4
scattered-back f below = eqb-true _ _ (within scatters 11 0 f scatters-each (omega arith) (omega arith))

abbrev gathers : ℕ → Bool
gathers half = nat_eq (gathered (jump_offset (half * 2) / 4)) (half * 2)

gathers-each : all_from gathers 11 0 ≡ true
unfolding all_from
gathers-each = refl

gathered-back : (half : ℕ) → half < 2048 → gathered (jump_offset (half * 2) / 4) ≡ half * 2
gathered-back half below = eqb-true _ _ (within gathers 11 0 half gathers-each (omega arith) (omega arith))

-- an offset whose field is `f` is the one gathered from it
pub offset-gathered : (u f : ℕ) → u < 4096 → u % 2 ≡ 0 → jump_offset u ≡ f * 4 → u ≡ gathered f
offset-gathered u f below even e =
    let h : u ≡ u / 2 * 2 = omega arith in
    let s : f ≡ jump_offset (u / 2 * 2) / 4 = quarter (jump_offset (u / 2 * 2)) f (ap (λ v. jump_offset v) (sym h) ∙ e) in
    h ∙ sym (gathered-back (u / 2) (omega arith)) ∙ ap (λ v. gathered v) (sym s)
  where
    quarter : (a f : ℕ) → a ≡ f * 4 → f ≡ a / 4
    quarter a f e = omega arith

-- two's complement at twelve bits tells the offsets of jumps apart
pub field-below : (z : ℤ) → IsJump z → (field 12 z < 4096) × (field 12 z % 2 ≡ 0)
field-below z h = grind arith

field-unique : (y z : ℤ) → IsJump y → IsJump z → field 12 y ≡ field 12 z → y ≡ z
field-unique y z h k e = grind arith

jump-line : (z : ℤ) (u : ℕ) → negsuc 2047 ≤ℤ z → z ≤ℤ pos 2047 → field 12 z ≡ u * 2 → IsJump z
jump-line z u low high e = grind arith

-- the form that a parcel of c.j spells
jump-spelled : (bits f : ℕ) (z : ℤ) → bits ≡ 0xa001 + f * 4 → f < 2048 → negsuc 2047 ≤ℤ z → z ≤ℤ pos 2047 → field 12 z ≡ gathered f → SpellsForm bits (J z)
jump-spelled bits f z e below low high g = record {
  line = jump-line z (gathered f / 2) low high (g ∙ half f);
  sum = shift (jump_offset (field 12 z)) f bits (ap (λ v. jump_offset v) g ∙ scattered-back f below) e;
}
  where
    half : (f : ℕ) → gathered f ≡ gathered f / 2 * 2
    half f = omega arith

    shift : (a f bits : ℕ) → a ≡ f * 4 → bits ≡ 0xa001 + f * 4 → 1 + 5 * 2 ^ 13 + a ≡ bits
    shift a f bits h e = omega arith

-- and the only one
jump-only : (bits f : ℕ) (z : ℤ) → bits ≡ 0xa001 + f * 4 → f < 2048 → IsJump z → field 12 z ≡ gathered f → (form : Compressed) → SpellsForm bits form → J z ≡ form
jump-only bits f z e below line g (J y) s =
    ap (λ v. J v) (field-unique z y line s.line (g ∙ sym (offset-gathered (field 12 y) f (field-below y s.line).0 (field-below y s.line).1 (shift (jump_offset (field 12 y)) f bits s.sum e))))
  where
    shift : (a f bits : ℕ) → 1 + 5 * 2 ^ 13 + a ≡ bits → bits ≡ 0xa001 + f * 4 → a ≡ f * 4
    shift a f bits h e = omega arith
jump-only bits f z e below line g _ s = grind arith

pub jump-form : (bits f : ℕ) (z : ℤ) → bits ≡ 0xa001 + f * 4 → f < 2048 → negsuc 2047 ≤ℤ z → z ≤ℤ pos 2047 → field 12 z ≡ gathered f → IsForm (J z) bits
jump-form bits f z e below low high g form =
    let s : SpellsForm bits (J z) = jump-spelled bits f z e below low high g in
    (λ h. subst (λ v. SpellsForm bits v) h s, jump-only bits f z e below s.line g form)
