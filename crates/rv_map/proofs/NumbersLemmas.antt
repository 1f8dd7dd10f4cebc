-- A number is what its digits say, and its digits are the only ones that say it.

use Rattle.std.proofs.Common.{◌≡◌, ℕ, zero, suc, ◌+◌, ◌*◌, ◌/◌, ◌%◌, ◌^◌, ◌<◌, ◌≤◌, inl, inr, Bool, true, false, cond, eqb, ltb, not, ◌&&◌, List, [], ◌∷◌, ◌++◌, length, get_or, drop, Some, None, refl, sym, ap, subst, ◌∙◌, append_assoc, arith}
use Rattle.std.proofs.lemmas.Bool.{ltb-true, lt-ltb, le-ltb, eq-eqb, ne_eqb, eqb-true, and_parts, and_from, and_left, and_right, cases_Bool, cases_lt, false≢true, cond-true, cond-false, not-true, not_from_false}
use Rattle.std.proofs.lemmas.Bool.Decides.{nat_tests}
use Rattle.std.proofs.lemmas.List.{append-nil, drop_more, drop_all}
use Rattle.std.proofs.lemmas.List.Folds.{list_all_at}
use Rattle.std.proofs.lemmas.Option.{cond_some}
use Rattle.std.proofs.lemmas.Fmt.{digits_is_IsNumeral, decimal_step, decimal_digit}
use Rattle.std.proofs.lemmas.Str.{digit_value-digit_char}
use Rattle.std.specs.List.{list_all}
use Rattle.std.specs.Char.{digit_value}
use Rattle.std.specs.Fmt.{digits, digits_onto, digit_glyph}
use Rattle.std.specs.Str.Parse.{digits_value, digits_value_after}
use Rattle.rv_map.proofs.HexadecimalLemmas.{hexadecimal_step, hexadecimal_digit}
use Rattle.rv_map.proofs.DigitsLemmas.{tests_value}
use Rattle.rv_map.specs.Numeral.{IsBase, begins_numeral, is_digit, is_numeral, number_of}

-- what the laws below need of a base
record Divides (base : ℕ) : Type 0 where
  low : 2 ≤ base
  high : base ≤ 16
  rest : (n : ℕ) → n % base < base
  fewer : (n k : ℕ) → n < base ^ suc k → n / base < base ^ k
  none : (n : ℕ) → n < base ^ 0 → n ≡ 0
  whole : (n : ℕ) → n / base ≡ 0 → n % base ≡ n
  more : (n : ℕ) → (n / base ≡ 0 → ⊥) → 0 < n / base
  front : (n d : ℕ) → d < base → (n * base + d) / base ≡ n
  last : (n d : ℕ) → d < base → (n * base + d) % base ≡ d
  grows : (n d : ℕ) → 0 < n → base ≤ n * base + d
  keeps : (n d : ℕ) → n ≤ n * base + d
  wide : (n : ℕ) → n < 2 ^ 64 → n < base ^ 64
  step : (n : ℕ) → base ≤ n → n < 2 ^ 64 → digits base false n ≡ digits base false (n / base) ++ (digit_glyph false (n % base) ∷ [])
  one : (n : ℕ) → n < base → digits base false n ≡ digit_glyph false n ∷ []

small_glyph : (n : ℕ) → n < 10 → 48 + n ≡ digit_glyph false n
small_glyph n h = grind (arith, nat_tests)

ten : Divides 10
ten = record {
  low = omega arith;
  high = omega arith;
  rest = λ n. omega arith;
  fewer = λ n k h. omega arith;
  none = λ n h. omega arith;
  whole = λ n h. omega arith;
  more = λ n h. omega arith;
  front = λ n d h. omega arith;
  last = λ n d h. omega arith;
  grows = λ n d h. omega arith;
  keeps = λ n d. omega arith;
  wide = λ n h. omega arith;
  step = λ n large small. decimal_step n large small ∙ ap (λ c. digits 10 false (n / 10) ++ (c ∷ [])) (small_glyph (n % 10) (omega arith));
  one = λ n h. decimal_digit n h ∙ ap (λ c. c ∷ []) (small_glyph n h);
}

sixteen : Divides 16
sixteen = record {
  low = omega arith;
  high = omega arith;
  rest = λ n. omega arith;
  fewer = λ n k h. omega arith;
  none = λ n h. omega arith;
  whole = λ n h. omega arith;
  more = λ n h. omega arith;
  front = λ n d h. omega arith;
  last = λ n d h. omega arith;
  grows = λ n d h. omega arith;
  keeps = λ n d. omega arith;
  wide = λ n h. omega arith;
  step = λ n large small. hexadecimal_step n large small;
  one = λ n h. hexadecimal_digit n h;
}

divides : (base : ℕ) → IsBase base → Divides base
divides base h = elim h [ inl e ↦ subst Divides (sym e) ten | inr e ↦ subst Divides (sym e) sixteen ]

-- ---- what is written is read

glyph_value : (d : ℕ) → d < 16 → digit_value (digit_glyph false d) ≡ d
glyph_value d h = digit_value-digit_char d (omega arith)

module _ (base : ℕ) (b : Divides base) where
  glyph_is_digit : (d : ℕ) → d < base → is_digit base (digit_glyph false d) ≡ true
  glyph_is_digit d h =
      let high = b.high in
      let value : digit_value (digit_glyph false d) ≡ d = glyph_value d (omega arith) in
      tests_value base (digit_glyph false d) d value refl ∙ lt-ltb d base h

  all_digits : (k n : ℕ) (acc : List ℕ) → list_all (is_digit base) acc ≡ true → list_all (is_digit base) (digits_onto k base false n acc) ≡ true
  all_digits zero n acc h = h
  all_digits (suc k) n acc h = by (eqb (n / base) 0) _ _ more (all_digits k (n / base) (digit_glyph false (n % base) ∷ acc) more)
    where
      more : list_all (is_digit base) (digit_glyph false (n % base) ∷ acc) ≡ true
      more = and_from (is_digit base (digit_glyph false (n % base))) (list_all (is_digit base) acc) (glyph_is_digit (n % base) (b.rest n)) h

      by : (t : Bool) (xs ys : List ℕ) → list_all (is_digit base) xs ≡ true → list_all (is_digit base) ys ≡ true → list_all (is_digit base) (cond t xs ys) ≡ true
      by true xs ys p q = p
      by false xs ys p q = q

  no_zero_glyph : (d : ℕ) → 0 < d → d < 16 → digit_glyph false d ≡ 48 → ⊥
  no_zero_glyph d some small e = omega (arith, sym (glyph_value d small) ∙ ap digit_value e)

  no_zero_first : (k n : ℕ) (acc : List ℕ) → 0 < n → n < base ^ k → get_or (digits_onto k base false n acc) 0 0 ≡ 48 → ⊥
  no_zero_first zero n acc some h = absurd (omega (arith, b.none n h))
  no_zero_first (suc k) n acc some h =
      elim (cases_Bool (eqb (n / base) 0)) [
        | inl small ↦ λ e.
            let same : n % base ≡ n = b.whole n (eqb-true _ 0 small) in
            let rest = b.rest n in
            let high = b.high in
            no_zero_glyph (n % base) (omega arith) (omega arith)
            (sym (ap (λ t. get_or (cond t (digit_glyph false (n % base) ∷ acc) (digits_onto k base false (n / base) (digit_glyph false (n % base) ∷ acc))) 0 0) small) ∙ e)
        | inr large ↦ λ e.
            let more : 0 < n / base = b.more n (λ z. false≢true (sym large ∙ eq-eqb _ 0 z)) in
            no_zero_first k (n / base) (digit_glyph false (n % base) ∷ acc) more (b.fewer n k h)
            (sym (ap (λ t. get_or (cond t (digit_glyph false (n % base) ∷ acc) (digits_onto k base false (n / base) (digit_glyph false (n % base) ∷ acc))) 0 0) large) ∙ e)
      ]

  digits_pass : (n : ℕ) → list_all (is_digit base) (digits base false n) ≡ true
  unfolding digits
  digits_pass n = all_digits 64 n [] refl

  digits_begin : (n : ℕ) → 0 < n → n < 2 ^ 64 → get_or (digits base false n) 0 0 ≡ 48 → ⊥
  unfolding digits
  digits_begin n some small e = no_zero_first 64 n [] some (b.wide n small) e

  begins_well : (n : ℕ) → n < 2 ^ 64 → 0 < length (digits base false n) → begins_numeral (digits base false n) ≡ true
  begins_well n small long =
      let low = b.low in
      let ds = digits base false n in
      let lead : (ltb 1 (length ds) && eqb (get_or ds 0 0) 48) ≡ false =
      elim (cases_lt 0 n) [
        | inl some ↦ and_right (ltb 1 (length ds)) (eqb (get_or ds 0 0) 48) (ne_eqb _ 48 (digits_begin n some small))
        | inr none ↦
            let single : ds ≡ digit_glyph false n ∷ [] = b.one n (omega arith) in
            and_left (ltb 1 (length ds)) (eqb (get_or ds 0 0) 48) (le-ltb 1 (length ds) (omega (arith, ap length single)))
      ] in
      and_from _ _ (lt-ltb 0 (length ds) long) (not_from_false _ lead)

number_by : (base : ℕ) (bytes : List ℕ) (n : ℕ) → is_numeral base bytes ≡ true → digits_value base bytes ≡ n → n < 2 ^ 64 → number_of base bytes ≡ Some n
unfolding number_of
number_by base bytes n pass value small =
    cond-true (is_numeral base bytes && ltb (digits_value base bytes) (2 ^ 64)) (Some (digits_value base bytes)) None
    (and_from _ _ pass (lt-ltb _ _ (omega (arith, value))))
    ∙ ap (λ m. Some m) value

pub number_again : (base n : ℕ) → IsBase base → n < 2 ^ 64 → number_of base (digits base false n) ≡ Some n
number_again base n is small =
    let b = divides base is in
    let numeral = digits_is_IsNumeral base false b.low b.high n (b.wide n small) in
    number_by base (digits base false n) n
    (and_from _ _ (begins_well base b n small numeral.0.0) (digits_pass base b n))
    numeral.1 small

pub digits_pass_at : (base n : ℕ) → IsBase base → list_all (is_digit base) (digits base false n) ≡ true
digits_pass_at base n is = digits_pass base (divides base is) n

-- ---- what is read is written so

le_value_after : (base : ℕ) → Divides base → (n : ℕ) (ds : List ℕ) → n ≤ digits_value_after base n ds
le_value_after base b n [] = omega arith
le_value_after base b n (c ∷ cs) = omega (arith, b.keeps n (digit_value c), le_value_after base b (n * base + digit_value c) cs)

digit_parts : (base c : ℕ) → is_digit base c ≡ true → (digit_value c < base) × (c ≡ digit_glyph false (digit_value c))
unfolding is_digit
digit_parts base c h = let p = and_parts (ltb (digit_value c) base) (eqb c (digit_glyph false (digit_value c))) h in (ltb-true _ _ p.0, eqb-true _ _ p.1)

glyph_above : (d : ℕ) → 48 ≤ digit_glyph false d
glyph_above d = grind (arith, nat_tests)

-- a digit is no blank and no control byte
pub digit_above : (base c : ℕ) → is_digit base c ≡ true → 48 ≤ c
digit_above base c h = omega (arith, (digit_parts base c h).1, glyph_above (digit_value c))

module _ (base : ℕ) (b : Divides base) where
  digits_go_on : (n : ℕ) (ds : List ℕ) → 0 < n → list_all (is_digit base) ds ≡ true → digits_value_after base n ds < 2 ^ 64 → digits base false (digits_value_after base n ds) ≡ digits base false n ++ ds
  digits_go_on n [] some pass small = sym (append-nil (digits base false n))
  digits_go_on n (c ∷ cs) some pass small =
      let each = and_parts (is_digit base c) (list_all (is_digit base) cs) pass in
      let digit = digit_parts base c each.0 in
      let m : ℕ = n * base + digit_value c in
      let large : base ≤ m = b.grows n (digit_value c) some in
      let bound : m ≤ digits_value_after base m cs = le_value_after base b m cs in
      let positive : 0 < m = let keeps = b.keeps n (digit_value c) in omega arith in
      let written : digits base false m ≡ digits base false n ++ (c ∷ []) =
      b.step m large (omega arith)
      ∙ ap (λ q. digits base false q ++ (digit_glyph false (m % base) ∷ [])) (b.front n (digit_value c) digit.0)
      ∙ ap (λ r. digits base false n ++ (digit_glyph false r ∷ [])) (b.last n (digit_value c) digit.0)
      ∙ ap (λ r. digits base false n ++ (r ∷ [])) (sym digit.1) in
      digits_go_on m cs positive each.1 small ∙ ap (λ x. x ++ cs) written ∙ append_assoc (digits base false n) (c ∷ []) cs

  single_digit : (c : ℕ) → is_digit base c ≡ true → digits base false (0 * base + digit_value c) ≡ c ∷ []
  single_digit c h =
      let digit = digit_parts base c h in
      let same : 0 * base + digit_value c ≡ digit_value c = omega arith in
      ap (digits base false) same ∙ b.one (digit_value c) digit.0 ∙ ap (λ x. x ∷ []) (sym digit.1)

  digits_only : (ds : List ℕ) → begins_numeral ds ≡ true → list_all (is_digit base) ds ≡ true → digits_value base ds < 2 ^ 64 → ds ≡ digits base false (digits_value base ds)
  digits_only [] begins pass small = absurd (false≢true begins)
  digits_only (c ∷ []) begins pass small =
      sym (single_digit c (and_parts (is_digit base c) true pass).0)
  digits_only (c ∷ e ∷ cs) begins pass small =
      let lead = not-true _ (and_parts (ltb 0 (length (c ∷ e ∷ cs))) (not (ltb 1 (length (c ∷ e ∷ cs)) && eqb c 48)) begins).1 in
      let each = and_parts (is_digit base c) (list_all (is_digit base) (e ∷ cs)) pass in
      let digit = digit_parts base c each.0 in
      let no : c ≡ 48 → ⊥ = λ z. false≢true (sym lead ∙ and_from (ltb 1 (length (c ∷ e ∷ cs))) (eqb c 48) (lt-ltb _ _ (omega arith)) (eq-eqb c 48 z)) in
      let positive : 0 < 0 * base + digit_value c =
      elim (cases_lt 0 (digit_value c)) [
        | inl l ↦ omega arith
        | inr l ↦ let zero_value : digit_value c ≡ 0 = omega arith in absurd (no (digit.1 ∙ ap (digit_glyph false) zero_value))
      ] in
      sym (digits_go_on (0 * base + digit_value c) (e ∷ cs) positive each.1 small ∙ ap (λ x. x ++ (e ∷ cs)) (single_digit c each.0))

pub number_only : (base : ℕ) (ds : List ℕ) (n : ℕ) → IsBase base → number_of base ds ≡ Some n → ds ≡ digits base false n
unfolding number_of
number_only base ds n is e =
    let b = divides base is in
    let got = cond_some (is_numeral base ds && ltb (digits_value base ds) (2 ^ 64)) (digits_value base ds) n e in
    let tests = and_parts (is_numeral base ds) (ltb (digits_value base ds) (2 ^ 64)) got.0 in
    let parts = and_parts (begins_numeral ds) (list_all (is_digit base) ds) tests.0 in
    digits_only base b ds parts.0 parts.1 (ltb-true _ _ tests.1) ∙ ap (digits base false) got.1

-- ---- the loop over the digits

pub number_none_begin : (base : ℕ) (bytes : List ℕ) → begins_numeral bytes ≡ false → number_of base bytes ≡ None
unfolding number_of
number_none_begin base bytes h =
    cond-false (is_numeral base bytes && ltb (digits_value base bytes) (2 ^ 64)) (Some (digits_value base bytes)) None
    (and_left (is_numeral base bytes) _ (and_left (begins_numeral bytes) _ h))

pub number_none_digit : (base : ℕ) (bytes : List ℕ) (i : ℕ) → i < length bytes → is_digit base (get_or bytes i 0) ≡ false → number_of base bytes ≡ None
unfolding number_of
number_none_digit base bytes i l h =
    cond-false (is_numeral base bytes && ltb (digits_value base bytes) (2 ^ 64)) (Some (digits_value base bytes)) None
    (and_left (is_numeral base bytes) _ (and_right (begins_numeral bytes) _ (list_all_at (is_digit base) bytes i 0 l h)))

-- a number that has passed the limit does not come back
pub number_none_value : (base : ℕ) (bytes : List ℕ) (i n : ℕ) → IsBase base → i < length bytes → digits_value_after base n (drop i bytes) ≡ digits_value base bytes
    → (n * base + digit_value (get_or bytes i 0) < 2 ^ 64 → ⊥) → number_of base bytes ≡ None
unfolding number_of
number_none_value base bytes i n is l so_far past =
    let byte = get_or bytes i 0 in
    let whole : digits_value_after base (n * base + digit_value byte) (drop (i + 1) bytes) ≡ digits_value base bytes = sym (ap (digits_value_after base n) (drop_more bytes i 0 l)) ∙ so_far in
    let bound : n * base + digit_value byte ≤ digits_value base bytes = omega (arith, le_value_after base (divides base is) (n * base + digit_value byte) (drop (i + 1) bytes), whole) in
    let large : 2 ^ 64 ≤ digits_value base bytes = elim (cases_lt (n * base + digit_value byte) (2 ^ 64)) [ inl small ↦ absurd (past small) | inr large ↦ omega arith ] in
    cond-false (is_numeral base bytes && ltb (digits_value base bytes) (2 ^ 64)) (Some (digits_value base bytes)) None
    (and_right (is_numeral base bytes) _ (le-ltb _ _ large))

-- at the end
pub number_done : (base : ℕ) (bytes : List ℕ) (i n : ℕ) → length bytes ≤ i → begins_numeral bytes ≡ true → list_all (is_digit base) (drop i bytes) ≡ list_all (is_digit base) bytes
    → digits_value_after base n (drop i bytes) ≡ digits_value base bytes → n < 2 ^ 64 → number_of base bytes ≡ Some n
number_done base bytes i n past begins passes value small =
    let none = drop_all i bytes past in
    number_by base bytes n
    (and_from (begins_numeral bytes) _ begins (sym passes ∙ ap (list_all (is_digit base)) none))
    (sym value ∙ ap (digits_value_after base n) none)
    small
