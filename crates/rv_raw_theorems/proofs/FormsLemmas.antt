-- The statement of a parcel names the form from which it was written.

use Rattle.std.proofs.Common.{◌≡◌, ◌≢◌, ℕ, zero, suc, ℤ, pos, negsuc, ◌<◌, true, false, List, [], ◌∷◌, Some, option_map, refl, sym, ◌∙◌, ap, arith, inl, inr}
use Rattle.std.specs.Prelude.{◌≤ℤ◌, nat_le, nat_lt}
use Rattle.std.proofs.lemmas.Bool.Decides.{nat_tests}
use Rattle.std.proofs.lemmas.Int.{ints}
use Rattle.rv_isa_laws.specs.Arithmetic.{wrapped}
use Rattle.rv_parcel.specs.declared.form.Compressed.{Compressed}
use Rattle.rv_parcel.specs.declared.form.Compressed.TheVariants as forms
use Rattle.rv_parcel.specs.declared.parcel.ParcelOperation.{ParcelOperation}
use Rattle.rv_parcel.specs.declared.parcel.ParcelOperation.TheVariants as parcels
use Rattle.rv_parcel.specs.declared.parcel.RegisterSet.{RegisterSet}
use Rattle.rv_parcel.specs.declared.parcel.RegisterSet.TheVariants.{Any, Nonzero, Short, Stack, Upper}
use Rattle.rv_parcel.specs.Mnemonics.{is_of_set, are_in, register_sets, is_multiple, is_between, is_zero, takes_number, form_with, form_of}
use Rattle.rv_parcel.specs.Parcel.{IsMultiple, IsSixBits, IsStackStep, IsUpper, IsLine, IsNoHint}
use Rattle.rv_pseudo_laws.specs.Code.{Constants, by_form}
use Rattle.rv_source_laws.specs.Lines.{form_in}
use Rattle.rv_raw_theorems.specs.Statements.{IsSmall, constant_expression, parcel_statement}
use Rattle.rv_raw_theorems.specs.Meaning.{KnowsNumbers, named_in_parcel}
use Rattle.rv_raw_theorems.proofs.OperandsLemmas.{any_register}
use Rattle.rv_raw_theorems.proofs.ParcelsLemmas.{short_in, nonzero_in, upper_in, six_small, step_small}

-- ---- registers of a form are of its sets

one_in : (set : RegisterSet) (a : ℕ) → is_of_set set a ≡ true → are_in (set ∷ []) (a ∷ []) ≡ true
one_in set a h = rw h refl

two_in : (set base : RegisterSet) (a b : ℕ) → is_of_set set a ≡ true → is_of_set base b ≡ true → are_in (set ∷ base ∷ []) (a ∷ b ∷ []) ≡ true
two_in set base a b h k = rw (h, k) refl

-- ---- a form's number is one that its mnemonic takes

multiple : (unit limit u : ℕ) → IsMultiple unit limit u → is_multiple unit limit (pos u) ≡ true
multiple unit limit u (lt, even) =
    let natural : nat_le 0 u ≡ true = grind (arith, nat_tests) in
    let below : nat_lt u limit ≡ true = grind (arith, nat_tests, lt) in
    rw (natural, below, even) refl

some_number : (n : ℕ) → 0 < n → is_zero (pos n) ≡ false
some_number n lt = grind (arith, nat_tests, lt)

other_number : (z : ℤ) → z ≢ pos 0 → is_zero z ≡ false
other_number (pos zero) other = absurd (other refl)
other_number (pos (suc n)) other = some_number (suc n) (omega arith)
other_number (negsuc n) other = some_number (suc n) (omega arith)

between : (low high : ℕ) (z : ℤ) → negsuc low ≤ℤ z → z ≤ℤ pos high → is_between (negsuc low) (pos high) z ≡ true
between low high (pos n) below above = grind (arith, nat_tests, ints, above)
between low high (negsuc n) below above = grind (arith, nat_tests, ints, below)

six_bits : (z : ℤ) → IsSixBits z → is_between (negsuc 31) (pos 31) z ≡ true
six_bits z h = between 31 31 z h.0 h.1

six_bits_some : (z : ℤ) → IsSixBits z → z ≢ pos 0 → takes_number parcels.Addi z ≡ true
six_bits_some z h other = rw (six_bits z h, other_number z other) refl

stack_step : (z : ℤ) → IsStackStep z → takes_number parcels.Addi16sp z ≡ true
stack_step z (low, high, even, other) = rw (between 511 511 z low high, even, other_number z other) refl

amount : (u : ℕ) → 0 < u → u < 64 → is_between (pos 1) (pos 63) (pos u) ≡ true
amount u some lt = grind (arith, nat_tests, some, lt)

upper : (u : ℕ) → IsUpper u → takes_number parcels.Lui (pos u) ≡ true
upper u (inl (some, lt)) = grind (arith, nat_tests, some, lt)
upper u (inr (low, lt)) = grind (arith, nat_tests, low, lt)

-- ---- the form that a mnemonic is

of_form : (op : ParcelOperation) (rs : List ℕ) (k : ℤ) (c : Compressed) → are_in (register_sets op) rs ≡ true → takes_number op k ≡ true → option_map (λ make. make k) (form_with op rs) ≡ Some c → form_of op rs k ≡ Some c
of_form op rs k c held taken same = rw (held, taken) same

low : (u : ℕ) → IsSmall (pos u) → wrapped (pos u) ≡ u
low u lt = omega (arith, lt)

upper_small : (u : ℕ) → IsUpper u → IsSmall (pos u)
upper_small u (inl (some, lt)) = omega (arith, lt)
upper_small u (inr (low, lt)) = omega (arith, lt)

module _ (v : Constants) (known : KnowsNumbers v) where
  by_known : (op : ParcelOperation) (rs : List ℕ) (k : ℤ) (c : Compressed) → IsSmall k → are_in (register_sets op) rs ≡ true → takes_number op k ≡ true → option_map (λ make. make k) (form_with op rs) ≡ Some c
      → by_form (form_of op rs) (v (constant_expression k)) ≡ Some c
  by_known op rs k c small held taken same = rw (known k small) (of_form op rs k c held taken same)

  -- where the form has its number without a sign
  by_unsigned : (op : ParcelOperation) (rs : List ℕ) (u : ℕ) (make : ℕ → Compressed) → IsSmall (pos u) → are_in (register_sets op) rs ≡ true → takes_number op (pos u) ≡ true
      → option_map (λ make. make (pos u)) (form_with op rs) ≡ Some (make (wrapped (pos u))) → by_form (form_of op rs) (v (constant_expression (pos u))) ≡ Some (make u)
  by_unsigned op rs u make small held taken same = by_known op rs (pos u) (make u) small held taken (same ∙ ap (λ n. Some (make n)) (low u small))

  pub named : (c : Compressed) → IsLine c → IsNoHint c → form_in v (parcel_statement c) ≡ named_in_parcel c
  named (forms.Addi4spn rd u) (a, b, some) h = by_unsigned parcels.Addi4spn (rd ∷ 2 ∷ []) u (λ n. forms.Addi4spn rd n) (let lt = b.0 in omega (arith, lt)) (two_in Short Stack rd 2 (short_in rd a) refl) (rw (multiple 4 1024 u b, some_number u some) refl) refl
  named (forms.Lw rd rs1 u) (a, b, c) h = by_unsigned parcels.Lw (rd ∷ rs1 ∷ []) u (λ n. forms.Lw rd rs1 n) (let lt = c.0 in omega (arith, lt)) (two_in Short Short rd rs1 (short_in rd a) (short_in rs1 b)) (multiple 4 128 u c) refl
  named (forms.Ld rd rs1 u) (a, b, c) h = by_unsigned parcels.Ld (rd ∷ rs1 ∷ []) u (λ n. forms.Ld rd rs1 n) (let lt = c.0 in omega (arith, lt)) (two_in Short Short rd rs1 (short_in rd a) (short_in rs1 b)) (multiple 8 256 u c) refl
  named (forms.Sw rs1 rs2 u) (a, b, c) h = by_unsigned parcels.Sw (rs2 ∷ rs1 ∷ []) u (λ n. forms.Sw rs1 rs2 n) (let lt = c.0 in omega (arith, lt)) (two_in Short Short rs2 rs1 (short_in rs2 b) (short_in rs1 a)) (multiple 4 128 u c) refl
  named (forms.Sd rs1 rs2 u) (a, b, c) h = by_unsigned parcels.Sd (rs2 ∷ rs1 ∷ []) u (λ n. forms.Sd rs1 rs2 n) (let lt = c.0 in omega (arith, lt)) (two_in Short Short rs2 rs1 (short_in rs2 b) (short_in rs1 a)) (multiple 8 256 u c) refl
  named (forms.Nop i) a zero_is = ap (λ k. Some (forms.Nop k)) (sym zero_is)
  named (forms.Addi rd i) ((a, b), c) other = by_known parcels.Addi (rd ∷ []) i (forms.Addi rd i) (six_small i c) (one_in Nonzero rd (nonzero_in rd a b)) (six_bits_some i c other) refl
  named (forms.Addiw rd i) ((a, b), c) h = by_known parcels.Addiw (rd ∷ []) i (forms.Addiw rd i) (six_small i c) (one_in Nonzero rd (nonzero_in rd a b)) (six_bits i c) refl
  named (forms.Li rd i) (b, c) some = by_known parcels.Li (rd ∷ []) i (forms.Li rd i) (six_small i c) (one_in Nonzero rd (nonzero_in rd some b)) (six_bits i c) refl
  named (forms.Addi16sp i) a h = by_known parcels.Addi16sp (2 ∷ []) i (forms.Addi16sp i) (step_small i a) refl (stack_step i a) refl
  named (forms.Lui rd u) (a, b, c) some = by_unsigned parcels.Lui (rd ∷ []) u (λ n. forms.Lui rd n) (upper_small u c) (one_in Upper rd (upper_in rd some a b)) (upper u c) refl
  named (forms.Srli rd u) (a, lt) some = by_unsigned parcels.Srli (rd ∷ []) u (λ n. forms.Srli rd n) (omega (arith, lt)) (one_in Short rd (short_in rd a)) (amount u some lt) refl
  named (forms.Srai rd u) (a, lt) some = by_unsigned parcels.Srai (rd ∷ []) u (λ n. forms.Srai rd n) (omega (arith, lt)) (one_in Short rd (short_in rd a)) (amount u some lt) refl
  named (forms.Andi rd i) (a, c) h = by_known parcels.Andi (rd ∷ []) i (forms.Andi rd i) (six_small i c) (one_in Short rd (short_in rd a)) (six_bits i c) refl
  named (forms.Sub rd rs2) (a, b) h = of_form parcels.Sub (rd ∷ rs2 ∷ []) (pos 0) (forms.Sub rd rs2) (two_in Short Short rd rs2 (short_in rd a) (short_in rs2 b)) refl refl
  named (forms.Xor rd rs2) (a, b) h = of_form parcels.Xor (rd ∷ rs2 ∷ []) (pos 0) (forms.Xor rd rs2) (two_in Short Short rd rs2 (short_in rd a) (short_in rs2 b)) refl refl
  named (forms.Or rd rs2) (a, b) h = of_form parcels.Or (rd ∷ rs2 ∷ []) (pos 0) (forms.Or rd rs2) (two_in Short Short rd rs2 (short_in rd a) (short_in rs2 b)) refl refl
  named (forms.And rd rs2) (a, b) h = of_form parcels.And (rd ∷ rs2 ∷ []) (pos 0) (forms.And rd rs2) (two_in Short Short rd rs2 (short_in rd a) (short_in rs2 b)) refl refl
  named (forms.Subw rd rs2) (a, b) h = of_form parcels.Subw (rd ∷ rs2 ∷ []) (pos 0) (forms.Subw rd rs2) (two_in Short Short rd rs2 (short_in rd a) (short_in rs2 b)) refl refl
  named (forms.Addw rd rs2) (a, b) h = of_form parcels.Addw (rd ∷ rs2 ∷ []) (pos 0) (forms.Addw rd rs2) (two_in Short Short rd rs2 (short_in rd a) (short_in rs2 b)) refl refl
  named (forms.J i) a h = refl
  named (forms.Beqz rs1 i) a h = refl
  named (forms.Bnez rs1 i) a h = refl
  named (forms.Slli rd u) (a, lt) (some, more) = by_unsigned parcels.Slli (rd ∷ []) u (λ n. forms.Slli rd n) (omega (arith, lt)) (one_in Nonzero rd (nonzero_in rd some a)) (amount u more lt) refl
  named (forms.Lwsp rd u) ((a, b), c) h = by_unsigned parcels.Lwsp (rd ∷ 2 ∷ []) u (λ n. forms.Lwsp rd n) (let lt = c.0 in omega (arith, lt)) (two_in Nonzero Stack rd 2 (nonzero_in rd a b) refl) (multiple 4 256 u c) refl
  named (forms.Ldsp rd u) ((a, b), c) h = by_unsigned parcels.Ldsp (rd ∷ 2 ∷ []) u (λ n. forms.Ldsp rd n) (let lt = c.0 in omega (arith, lt)) (two_in Nonzero Stack rd 2 (nonzero_in rd a b) refl) (multiple 8 512 u c) refl
  named (forms.Jr rs1) (a, b) h = of_form parcels.Jr (rs1 ∷ []) (pos 0) (forms.Jr rs1) (one_in Nonzero rs1 (nonzero_in rs1 a b)) refl refl
  named (forms.Mv rd rs2) (a, (b, c)) some = of_form parcels.Mv (rd ∷ rs2 ∷ []) (pos 0) (forms.Mv rd rs2) (two_in Nonzero Nonzero rd rs2 (nonzero_in rd some a) (nonzero_in rs2 b c)) refl refl
  named forms.Ebreak a h = refl
  named (forms.Jalr rs1) (a, b) h = of_form parcels.Jalr (rs1 ∷ []) (pos 0) (forms.Jalr rs1) (one_in Nonzero rs1 (nonzero_in rs1 a b)) refl refl
  named (forms.Add rd rs2) (a, (b, c)) some = of_form parcels.Add (rd ∷ rs2 ∷ []) (pos 0) (forms.Add rd rs2) (two_in Nonzero Nonzero rd rs2 (nonzero_in rd some a) (nonzero_in rs2 b c)) refl refl
  named (forms.Swsp rs2 u) (a, c) h = by_unsigned parcels.Swsp (rs2 ∷ 2 ∷ []) u (λ n. forms.Swsp rs2 n) (let lt = c.0 in omega (arith, lt)) (two_in Any Stack rs2 2 (any_register rs2 a) refl) (multiple 4 256 u c) refl
  named (forms.Sdsp rs2 u) (a, c) h = by_unsigned parcels.Sdsp (rs2 ∷ 2 ∷ []) u (λ n. forms.Sdsp rs2 n) (let lt = c.0 in omega (arith, lt)) (two_in Any Stack rs2 2 (any_register rs2 a) refl) (multiple 8 512 u c) refl
