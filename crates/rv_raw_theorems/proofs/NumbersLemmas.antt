-- The text of a number is a lexeme, with the number as its value.

use Rattle.std.proofs.Common.{◌≡◌, ℕ, zero, suc, ℤ, pos, negsuc, ◌+◌, ◌*◌, ◌^◌, ◌/◌, ◌%◌, ◌<◌, ◌≤◌, Bool, true, false, cond, ◌==◌, List, [], ◌∷◌, length, get_or, refl, sym, ◌∙◌, subst, arith}
use Rattle.std.proofs.lemmas.Bool.{and_from}
use Rattle.std.proofs.lemmas.Bool.Decides.{nat_tests}
use Rattle.std.proofs.lemmas.Int.{ints}
use Rattle.std.specs.Prelude.{◌≤ℤ◌}
use Rattle.std.proofs.Math.Nat.{add-mul, mul-one, pow-zero, pow-suc}
use Rattle.std.specs.List.{list_all}
use Rattle.std.specs.Char.{digit_value}
use Rattle.std.specs.Str.Parse.{AllDigits, digits_value, digits_value_after}
use Rattle.std.specs.Fmt.{decimal, digits, digits_onto, digit_glyph}
use Rattle.std.proofs.lemmas.Fmt.{decimal_digit, digits_is_IsNumeral, first_decimal}
use Rattle.rv_expression_laws.specs.Bytes.{digit, is_digit, digits_value as value, is_word, is_decimal, in_line}
use Rattle.rv_expression_laws.specs.Grammar.{Number, Spells, Decimal, Octal_digits, Hexadecimal_digits}
use Rattle.rv_map_laws.specs.Text.{hexadecimal}
use Rattle.rv_listing_laws.specs.Numbers.{prefixed}
use Rattle.rv_raw_theorems.specs.Statements.{IsSmall}
use Rattle.rv_raw_theorems.proofs.LexemesLemmas.{decimal_class, words_in_line}

-- ---- a digit

digit_same : (b : ℕ) → digit_value b < 16 → digit b ≡ digit_value b
unfolding digit
digit_same b h = grind (arith, nat_tests)

digit_is_word : (b : ℕ) → digit_value b < 16 → is_word b ≡ true
digit_is_word b h = grind (arith, nat_tests)

digit_decimal : (b : ℕ) → digit_value b < 10 → is_decimal b ≡ true
digit_decimal b h = grind (arith, nat_tests)

-- ---- digits

digit_tested : (base b : ℕ) → base ≤ 16 → digit_value b < base → is_digit base b ≡ true
digit_tested base b high h = let same : digit b ≡ digit_value b = digit_same b (omega arith) in rw same (grind (arith, nat_tests))

all_tested : (base : ℕ) (ds : List ℕ) → base ≤ 16 → AllDigits base ds → list_all (is_digit base) ds ≡ true
all_tested base [] high all = refl
all_tested base (d ∷ ds) high all = and_from (is_digit base d) (list_all (is_digit base) ds) (digit_tested base d high all.0) (all_tested base ds high all.1)

pub all_words : (base : ℕ) (ds : List ℕ) → base ≤ 16 → AllDigits base ds → list_all is_word ds ≡ true
all_words base [] high all = refl
all_words base (d ∷ ds) high all =
    let one = all.0 in
    and_from (is_word d) (list_all is_word ds) (digit_is_word d (omega (arith, one))) (all_words base ds high all.1)

value_after : (base n : ℕ) (ds : List ℕ) → base ≤ 16 → AllDigits base ds → digits_value_after base n ds ≡ n * base ^ length ds + value base ds
value_after base n [] high all = let one : base ^ 0 ≡ 1 = pow-zero base in rw (one, mul-one n) (omega arith)
value_after base n (d ∷ ds) high all =
    let one = all.0 in
    let same : digit d ≡ digit_value d = digit_same d (omega (arith, one)) in
    value_after base (n * base + digit_value d) ds high all.1
    ∙ step (base ^ length ds) (base ^ suc (length ds)) (digit_value d) (digit d) (value base ds) (pow-suc base (length ds)) same
  where
    step : (p q v w r : ℕ) → q ≡ p * base → w ≡ v → (n * base + v) * p + r ≡ n * q + (w * p + r)
    step p q v w r e s = rw (e, s, add-mul (n * base) v p) (grind arith)

pub value_same : (base : ℕ) (ds : List ℕ) → base ≤ 16 → AllDigits base ds → value base ds ≡ digits_value base ds
value_same base ds high all = omega (arith, value_after base 0 ds high all)

-- ---- lexemes

decimal_by : (ds : List ℕ) (n : ℕ) → AllDigits 10 ds → 48 < get_or ds 0 0 → digits_value 10 ds ≡ n → n < 2 ^ 64 → Spells (Number ds n) ds
decimal_by [] n all first is small = absurd (omega (arith, first))
decimal_by (d ∷ ds) n all first is small =
    let one = all.0 in (
      refl,
      (d, ds, refl, decimal_class d (digit_decimal d one), all_words 10 ds (omega arith) all.1),
      record {
        base = 10;
        digits = d ∷ ds;
        shows = Decimal d ds (grind (arith, nat_tests, first));
        all_digits = all_tested 10 (d ∷ ds) (omega arith) all;
        is_value = sym (value_same 10 (d ∷ ds) (omega arith) all ∙ is);
        fits = small;
      },
    )

zero_spells : Spells (Number (48 ∷ []) 0) (48 ∷ [])
zero_spells = (refl, (48, [], refl, decimal_class 48 refl, refl), record { base = 8; digits = []; shows = Octal_digits []; all_digits = refl; is_value = refl; fits = omega arith })

pub decimal_spells : (n : ℕ) → n < 2 ^ 64 → Spells (Number (decimal n) n) (decimal n)
decimal_spells zero small = subst (λ t. Spells (Number t 0) t) (sym (decimal_digit 0 (omega arith))) zero_spells
decimal_spells (suc m) small =
    let d = digits_is_IsNumeral 10 false (omega arith) (omega arith) (suc m) (omega arith) in
    decimal_by (decimal (suc m)) (suc m) d.0.1 (first_decimal (suc m) (omega arith) small) d.1 small

prefixed_by : (ds : List ℕ) (n : ℕ) → 0 < length ds → AllDigits 16 ds → digits_value 16 ds ≡ n → n < 2 ^ 64 → Spells (Number (48 ∷ 120 ∷ ds) n) (48 ∷ 120 ∷ ds)
prefixed_by [] n some all is small = absurd (omega (arith, some))
prefixed_by (d ∷ ds) n some all is small =
    let same : value 16 (d ∷ ds) ≡ digits_value 16 (d ∷ ds) = value_same 16 (d ∷ ds) (omega arith) all in (
      refl,
      (48, 120 ∷ d ∷ ds, refl, decimal_class 48 refl, all_words 16 (d ∷ ds) (omega arith) all),
      record {
        base = 16;
        digits = d ∷ ds;
        shows = Hexadecimal_digits d ds;
        all_digits = all_tested 16 (d ∷ ds) (omega arith) all;
        is_value = sym (same ∙ is);
        fits = small;
      },
    )

pub prefixed_spells : (n : ℕ) → n < 2 ^ 64 → Spells (Number (prefixed n) n) (prefixed n)
prefixed_spells n small =
    let d = digits_is_IsNumeral 16 false (omega arith) (omega arith) n (omega arith) in
    prefixed_by (hexadecimal n) n d.0.0 d.0.1 d.1 small

-- ---- lengths

digits_short : (k base n : ℕ) (acc : List ℕ) → length (digits_onto k base false n acc) ≤ k + length acc
digits_short zero base n acc = omega arith
digits_short (suc k) base n acc = go (n / base == 0) (digits_short k base (n / base) (digit_glyph false (n % base) ∷ acc))
  where
    go : (t : Bool) → length (digits_onto k base false (n / base) (digit_glyph false (n % base) ∷ acc)) ≤ k + suc (length acc)
        → length (cond t (digit_glyph false (n % base) ∷ acc) (digits_onto k base false (n / base) (digit_glyph false (n % base) ∷ acc))) ≤ suc k + length acc
    go true ih = omega arith
    go false ih = omega (arith, ih)

pub decimal_short : (n : ℕ) → length (decimal n) ≤ 64
unfolding digits
decimal_short n = let s = digits_short 64 10 n [] in omega (arith, s)

pub prefixed_short : (n : ℕ) → length (prefixed n) ≤ 66
unfolding digits
prefixed_short n = let s = digits_short 64 16 n [] in omega (arith, s)

-- ---- a number's text

pub record IsNumeral (text : List ℕ) (n : ℕ) : Type 0 where
  pub spells : Spells (Number text n) text
  pub in_lines : list_all in_line text ≡ true
  pub some : 0 < length text
  pub short : length text ≤ 66

spelled_some : (text : List ℕ) (n : ℕ) → Spells (Number text n) text → 0 < length text
spelled_some text n (same, (b, bs, whole, c, all), is) = rw whole (omega arith)

pub decimal_numeral : (n : ℕ) → n < 2 ^ 64 → IsNumeral (decimal n) n
decimal_numeral n small =
    let s = decimal_spells n small in
    let d = digits_is_IsNumeral 10 false (omega arith) (omega arith) n (omega arith) in
    let short = decimal_short n in
    record { spells = s; in_lines = words_in_line (decimal n) (all_words 10 (decimal n) (omega arith) d.0.1); some = spelled_some (decimal n) n s; short = omega (arith, short) }

pub prefixed_numeral : (n : ℕ) → n < 2 ^ 64 → IsNumeral (prefixed n) n
prefixed_numeral n small =
    let s = prefixed_spells n small in
    let d = digits_is_IsNumeral 16 false (omega arith) (omega arith) n (omega arith) in
    let short = prefixed_short n in
    record { spells = s; in_lines = words_in_line (hexadecimal n) (all_words 16 (hexadecimal n) (omega arith) d.0.1); some = spelled_some (prefixed n) n s; short = omega (arith, short) }

-- ---- a number with its sign

pub bounded : (low high : ℕ) → low < 2 ^ 21 → high < 2 ^ 21 → (z : ℤ) → negsuc low ≤ℤ z → z ≤ℤ pos high → IsSmall z
bounded low high l h (pos n) below above = omega (arith, ints, h, above)
bounded low high l h (negsuc n) below above = omega (arith, ints, l, below)
