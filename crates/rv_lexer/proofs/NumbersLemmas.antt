-- A number read digit by digit: what has been read, and what is left of it.

use Rattle.std.proofs.Common.{◌≡◌, ℕ, zero, suc, ◌+◌, ◌*◌, ◌^◌, ◌<◌, ◌≤◌, Bool, true, false, ◌&&◌, cond, nat_lt, ◌==◌, List, [], ◌∷◌, length, get_or, drop, drop-cons, add-one, refl, ◌∙◌, ap, arith, Option, Some, None}
use Rattle.std.proofs.lemmas.Bool.{le-ltb, lt-ltb}
use Rattle.std.specs.List.{list_all}
use Rattle.std.proofs.Math.Nat.{pow-zero, pow-suc, one-le-mul, le-mul_of_pos_right}
use Rattle.rv_expression_laws.specs.Bytes.{is_digit, digit, digits_value}
use Rattle.rv_expression_laws.specs.Front.{number_by, after_zero}

-- the number of digits already read, with the rest
abbrev pub number_with : ℕ → ℕ → List ℕ → ℕ
number_with base number rest = number * base ^ length rest + digits_value base rest

-- what the whole spells
abbrev pub number_on : ℕ → ℕ → List ℕ → Option ℕ
number_on base number rest = cond (list_all (is_digit base) rest && nat_lt (number_with base number rest) (2 ^ 64)) (Some (number_with base number rest)) None

regrouped : (n b x g v : ℕ) → n * (x * b) + (g * x + v) ≡ (n * b + g) * x + v
regrouped n b x g v = omega arith

with_digit : (base number d : ℕ) (rest : List ℕ) → number_with base number (d ∷ rest) ≡ number_with base (number * base + digit d) rest
with_digit base number d rest =
    ap (λ p. number * p + (digit d * base ^ length rest + digits_value base rest)) (pow-suc base (length rest))
    ∙ regrouped number base (base ^ length rest) (digit d) (digits_value base rest)

pub on_digit : (base number d : ℕ) (rest : List ℕ) → is_digit base d ≡ true → number_on base number (d ∷ rest) ≡ number_on base (number * base + digit d) rest
on_digit base number d rest good =
    ap (λ t. cond ((t && list_all (is_digit base) rest) && nat_lt (number_with base number (d ∷ rest)) (2 ^ 64)) (Some (number_with base number (d ∷ rest))) None) good
    ∙ ap (λ n. cond (list_all (is_digit base) rest && nat_lt n (2 ^ 64)) (Some n) None) (with_digit base number d rest)

pub on_other : (base number d : ℕ) (rest : List ℕ) → is_digit base d ≡ false → number_on base number (d ∷ rest) ≡ None
on_other base number d rest bad =
    ap (λ t. cond ((t && list_all (is_digit base) rest) && nat_lt (number_with base number (d ∷ rest)) (2 ^ 64)) (Some (number_with base number (d ∷ rest))) None) bad

pow_some : (base k : ℕ) → 0 < base → 0 < base ^ k
pow_some base zero some = rw pow-zero (omega arith)
pow_some base (suc k) some = rw pow-suc (one-le-mul (pow_some base k some) some)

pub on_large : (base number : ℕ) (rest : List ℕ) → 1 < base → 2 ^ 64 ≤ number → number_on base number rest ≡ None
on_large base number rest some large =
    let grows : number ≤ number * base ^ length rest = le-mul_of_pos_right number (pow_some base (length rest) (omega arith)) in
    let over : nat_lt (number_with base number rest) (2 ^ 64) ≡ false = le-ltb (number_with base number rest) (2 ^ 64) (omega arith) in
    go (list_all (is_digit base) rest) (nat_lt (number_with base number rest) (2 ^ 64)) over
  where
    go : (x y : Bool) → y ≡ false → cond (x && y) (Some (number_with base number rest)) None ≡ None
    go true y e = rw e refl
    go false y e = refl

pub on_end : (base number : ℕ) → number < 2 ^ 64 → number_on base number [] ≡ Some number
on_end base number fits =
    let same : number_with base number [] ≡ number = ap (λ p. number * p + 0) (pow-zero base) ∙ omega arith in
    let under : nat_lt number (2 ^ 64) ≡ true = lt-ltb number (2 ^ 64) fits in
    ap (λ n. cond (nat_lt n (2 ^ 64)) (Some n) None) same ∙ ap (λ t. cond t (Some number) None) under

-- the same, at a place of the digits
module _ (base number i : ℕ) (ds : List ℕ) (here : i < length ds) where
  front : drop i ds ≡ get_or ds i 0 ∷ drop (i + 1) ds
  front = rw (add-one, drop-cons ds i 0) refl

  pub next_digit : number_by base ds ≡ number_on base number (drop i ds) → is_digit base (get_or ds i 0) ≡ true
      → number_by base ds ≡ number_on base (number * base + digit (get_or ds i 0)) (drop (i + 1) ds)
  next_digit so_far good = so_far ∙ ap (number_on base number) front ∙ on_digit base number (get_or ds i 0) (drop (i + 1) ds) good

  pub no_digit : number_by base ds ≡ number_on base number (drop i ds) → is_digit base (get_or ds i 0) ≡ false → number_by base ds ≡ None
  no_digit so_far bad = so_far ∙ ap (number_on base number) front ∙ on_other base number (get_or ds i 0) (drop (i + 1) ds) bad

  pub too_large : number_by base ds ≡ number_on base number (drop i ds) → 1 < base → 2 ^ 64 ≤ number * base + digit (get_or ds i 0) → number_by base ds ≡ None
  too_large so_far some large = go (is_digit base (get_or ds i 0)) refl
    where
      go : (t : Bool) → is_digit base (get_or ds i 0) ≡ t → number_by base ds ≡ None
      go true e = next_digit so_far e ∙ on_large base (number * base + digit (get_or ds i 0)) (drop (i + 1) ds) some large
      go false e = no_digit so_far e

-- after a leading `0`
pub short_zero : (rest : List ℕ) → length rest < 2 → after_zero rest ≡ number_by 8 rest
short_zero [] short = refl
short_zero (c ∷ []) short = refl
short_zero (c ∷ d ∷ ds) short = absurd (omega arith)

pub long_zero : (rest : List ℕ) → 2 ≤ length rest
    → after_zero rest ≡ cond (get_or rest 0 0 == 120) (number_by 16 (drop 1 rest)) (cond (get_or rest 0 0 == 98) (number_by 2 (drop 1 rest)) (number_by 8 rest))
long_zero [] long = absurd (omega arith)
long_zero (c ∷ []) long = absurd (omega arith)
long_zero (c ∷ d ∷ ds) long = refl
