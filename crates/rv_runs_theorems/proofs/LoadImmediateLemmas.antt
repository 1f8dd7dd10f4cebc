-- The row of `li`: its lines set the register to the number.

use Rattle.std.proofs.Common.{◌≡◌, ℕ, zero, suc, ◌+◌, ◌-◌, ◌^◌, ◌<◌, Bool, true, false, List, [], ◌∷◌, ◌++◌, Some, length, refl, sym, ap, ◌∙◌, subst, arith, ℤ, pos, negsuc}
use Rattle.std.specs.Prelude.{map, if◌then◌else◌, sum_by, nat_lt}
use Rattle.std.specs.Ordering.{int_eq}
use Rattle.std.specs.List.{AllByRecursion}
use Rattle.std.proofs.lemmas.Bool.Decides.{nat_tests}
use Rattle.std.proofs.lemmas.Int.{ints}
use Rattle.rv_isa.specs.declared.instruction.Inst.{Inst}
use Rattle.rv_isa.specs.Ranges.{IsValid, IsSigned12}
use Rattle.rv_isa_laws.specs.Arithmetic.{wrapped, signed, sum_of, word_sum, shifted_left}
use Rattle.rv_isa_laws.specs.Halves.{lo}
use Rattle.rv_isa_laws.specs.Hart.{register}
use Rattle.rv_isa_laws.specs.Meaning.{with_result, upper}
use Rattle.rv_pseudo_laws.specs.Li.{addi, addiw, slli, lui, is_signed, upper_20, zeros, unless_zero, above, li_in, li, then_low}
use Rattle.rv_pseudo_laws.specs.Code.{Closed}
use Rattle.rv_pseudo_laws.specs.Filled.{FieldValue, filled}
use Rattle.rv_pseudo_laws.specs.Runs.{Sized}
use Rattle.rv_pseudo_laws.proofs.ModuloLemmas.{lo_range}
use Rattle.rv_pseudo_laws.proofs.SequencesLemmas.{li_sets}
use Rattle.rv_source_laws.specs.Lines.{Line, Lie}
use Rattle.rv_runs_theorems.proofs.ShapesLemmas.{insts, IsStraight, sized, sized_are, sized_bytes, walk_after}
use Rattle.rv_runs_theorems.proofs.RowsLemmas.{Row, SetsTo}

all_append : (P : Inst → Type 0) (xs ys : List Inst) → AllByRecursion P xs → AllByRecursion P ys → AllByRecursion P (xs ++ ys)
all_append P [] ys all rest = rest
all_append P (x ∷ xs) ys all rest = (all.0, all_append P xs ys all.1 rest)

all_front : (P : Inst → Type 0) (xs ys : List Inst) → AllByRecursion P (xs ++ ys) → AllByRecursion P xs
all_front P [] ys all = tt
all_front P (x ∷ xs) ys all = (all.0, all_front P xs ys all.1)

-- ---- each of its instructions only sets the register

addi_straight : (rd rs : ℕ) (k : ℤ) → IsStraight (addi rd rs k)
addi_straight rd rs k = record { next = λ b h. with_result b h rd (sum_of (register h rs) (wrapped k)); goes = λ b h. refl; ahead = λ b h. refl }

addiw_straight : (rd rs : ℕ) (k : ℤ) → IsStraight (addiw rd rs k)
addiw_straight rd rs k = record { next = λ b h. with_result b h rd (word_sum (register h rs) (wrapped k)); goes = λ b h. refl; ahead = λ b h. refl }

slli_straight : (rd rs amount : ℕ) → IsStraight (slli rd rs amount)
slli_straight rd rs amount = record { next = λ b h. with_result b h rd (shifted_left (register h rs) amount); goes = λ b h. refl; ahead = λ b h. refl }

lui_straight : (rd number : ℕ) → IsStraight (lui rd number)
lui_straight rd number = record { next = λ b h. with_result b h rd (upper number); goes = λ b h. refl; ahead = λ b h. refl }

unless_straight : (t : Bool) (i : Inst) → IsStraight i → AllByRecursion IsStraight (if t then [] else i ∷ [])
unless_straight true i s = tt
unless_straight false i s = (s, tt)

short_straight : (t : Bool) (rd : ℕ) (v : ℤ) → AllByRecursion IsStraight (if t then addi rd 0 v ∷ [] else lui rd (upper_20 v) ∷ unless_zero (lo v) (addiw rd rd (lo v)))
short_straight true rd v = (addi_straight rd 0 v, tt)
short_straight false rd v = (lui_straight rd (upper_20 v), unless_straight (int_eq (lo v) (pos 0)) (addiw rd rd (lo v)) (addiw_straight rd rd (lo v)))

straight_by : (t : Bool) (rd : ℕ) (v : ℤ) (before : List Inst) → AllByRecursion IsStraight before
    → AllByRecursion IsStraight (if t then (if is_signed 12 v then addi rd 0 v ∷ [] else lui rd (upper_20 v) ∷ unless_zero (lo v) (addiw rd rd (lo v))) else then_low rd v before)
straight_by true rd v before all = short_straight (is_signed 12 v) rd v
straight_by false rd v before all =
    all_append IsStraight before (slli rd rd (12 + zeros v) ∷ unless_zero (lo v) (addi rd rd (lo v))) all
    (slli_straight rd rd (12 + zeros v), unless_straight (int_eq (lo v) (pos 0)) (addi rd rd (lo v)) (addi_straight rd rd (lo v)))

in_straight : (steps rd : ℕ) (v : ℤ) → AllByRecursion IsStraight (li_in steps rd v)
in_straight zero rd v = short_straight (is_signed 12 v) rd v
in_straight (suc steps) rd v = straight_by (is_signed 32 v) rd v (li_in steps rd (above v)) (in_straight steps rd (above v))

-- ---- its register is one of the 32

short_few : (t : Bool) (rd : ℕ) (v : ℤ) → AllByRecursion IsValid (if t then addi rd 0 v ∷ [] else lui rd (upper_20 v) ∷ unless_zero (lo v) (addiw rd rd (lo v))) → rd < 32
short_few true rd v valid = valid.0.0
short_few false rd v valid = valid.0.0

few_by : (t : Bool) (rd : ℕ) (v : ℤ) (before : List Inst) → (AllByRecursion IsValid before → rd < 32)
    → AllByRecursion IsValid (if t then (if is_signed 12 v then addi rd 0 v ∷ [] else lui rd (upper_20 v) ∷ unless_zero (lo v) (addiw rd rd (lo v))) else then_low rd v before) → rd < 32
few_by true rd v before few valid = short_few (is_signed 12 v) rd v valid
few_by false rd v before few valid = few (all_front IsValid before (slli rd rd (12 + zeros v) ∷ unless_zero (lo v) (addi rd rd (lo v))) valid)

in_few : (steps rd : ℕ) (v : ℤ) → AllByRecursion IsValid (li_in steps rd v) → rd < 32
in_few zero rd v valid = short_few (is_signed 12 v) rd v valid
in_few (suc steps) rd v valid = few_by (is_signed 32 v) rd v (li_in steps rd (above v)) (in_few steps rd (above v)) valid

-- ---- the row

pub filled_closed : (f : FieldValue) (a : ℕ) (is : List Inst) → filled f a (map Closed is) ≡ is
filled_closed f a [] = refl
filled_closed f a (i ∷ is) = ap (λ js. i ∷ js) (filled_closed f (a + 4) is)

li_lines : (rd : ℕ) (k : ℤ) (address size : ℕ) (lines : List Line) → is_signed 64 k ≡ true → li rd k ≡ insts lines → Lie address lines (address + size)
    → AllByRecursion IsValid (insts lines) → 0 < size → address + size < 2 ^ 64 → SetsTo rd (λ h. wrapped k) address size lines
li_lines rd k address size [] fits e lie valid some below = absurd (omega arith)
li_lines rd k address size (l ∷ ls) fits e lie valid some below =
    let few : rd < 32 = in_few 3 rd k (subst (λ is. AllByRecursion IsValid is) (sym e) valid) in
    let straight : AllByRecursion IsStraight (insts (l ∷ ls)) = subst (λ is. AllByRecursion IsStraight is) e (in_straight 3 rd k) in
    let whole = sized_bytes (l ∷ ls) address (address + size) lie in
    let bytes : sum_by (λ (x : Sized). x.bytes) (sized (l ∷ ls)) ≡ size = omega arith in
    record {
      first = l;
      others = ls;
      are = refl;
      starts = lie.0;
      walks = λ h r.
          let count = r.whole in
          let inside : rd < length h.registers = omega arith in
          walk_after ls l address (address + size) h (with_result size h rd (wrapped k)) straight lie below r.at
          (li_sets rd k fits (sized (l ∷ ls)) h (sized_are (l ∷ ls) ∙ sym e) inside ∙ ap (λ n. Some (with_result n h rd (wrapped k))) bytes);
    }

pub row_li : (rd : ℕ) (k : ℤ) (f : FieldValue) (address size : ℕ) (lines : List Line) → is_signed 64 k ≡ true → Row f address size (map Closed (li rd k)) lines → SetsTo rd (λ h. wrapped k) address size lines
row_li rd k f address size lines fits r =
    li_lines rd k address size lines fits (sym (filled_closed f address (li rd k)) ∙ r.is) r.lie r.valid r.some r.below

-- ---- the numbers that it takes have 64 bits

pub signed_fits : (n : ℕ) → is_signed 64 (signed 64 n) ≡ true
signed_fits n = by (nat_lt n (2 ^ 63)) refl
  where
    by : (t : Bool) → nat_lt n (2 ^ 63) ≡ t → is_signed 64 (if t then pos n else negsuc (2 ^ 64 - suc n)) ≡ true
    by true e = grind (arith, ints, nat_tests)
    by false e = grind (arith, ints, nat_tests)

fits_64 : (v : ℤ) → IsSigned12 v → is_signed 64 v ≡ true
fits_64 (pos n) range = grind (arith, ints, nat_tests)
fits_64 (negsuc n) range = grind (arith, ints, nat_tests)

pub low_fits : (v : ℤ) → is_signed 64 (lo v) ≡ true
low_fits v = fits_64 (lo v) (lo_range v)
