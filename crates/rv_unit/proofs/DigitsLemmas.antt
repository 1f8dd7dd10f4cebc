-- Numbers by their digits, from the last digit on.

use Rattle.std.proofs.Common.{◌≡◌, ◌≢◌, ℕ, zero, suc, ◌+◌, ◌-◌, ◌*◌, ◌/◌, ◌%◌, ◌^◌, ◌<◌, ◌≤◌, Bool, true, false, ◌==◌, List, [], ◌∷◌, ◌++◌, length, drop, take, get_or, refl, sym, ap, ◌∙◌, subst, arith}
use Rattle.std.specs.Prelude.{if◌then◌else◌}
use Rattle.std.proofs.lemmas.Bool.{eqb-true, eqb-false}
use Rattle.std.proofs.lemmas.List.{length-append, take_more}
use Rattle.std.proofs.Math.Nat.{pow-succ'}
use Rattle.rv_expression_laws.specs.Bytes.{digits_value, digit}
use Rattle.rv_unit.specs.Mixed.{HasNoZeroInFront, mix, mix_digit, mix_within}

pub value-last : (ds : List ℕ) (d : ℕ) → digits_value 10 (ds ++ d ∷ []) ≡ 10 * digits_value 10 ds + digit d
value-last [] d = omega arith
value-last (e ∷ es) d =
    let more : length (es ++ d ∷ []) ≡ suc (length es) = omega (arith, length-append es (d ∷ [])) in
    ap (λ n. digit e * 10 ^ n + digits_value 10 (es ++ d ∷ [])) more ∙ ap (λ p. digit e * p + digits_value 10 (es ++ d ∷ [])) (pow-succ' 10 (length es)) ∙ ap (λ v. digit e * (10 * 10 ^ length es) + v) (value-last es d) ∙ shift (digit e) (10 ^ length es) (digits_value 10 es) (digit d)
  where
    shift : (a p v c : ℕ) → a * (10 * p) + (10 * v + c) ≡ 10 * (a * p + v) + c
    shift a p v c = grind arith

take_whole : (xs : List ℕ) → take (length xs) xs ≡ xs
take_whole [] = refl
take_whole (x ∷ xs) = ap (λ r. x ∷ r) (take_whole xs)

pub value-cut : (ds : List ℕ) → 0 < length ds → digits_value 10 ds ≡ 10 * digits_value 10 (take (length ds - 1) ds) + digit (get_or ds (length ds - 1) 0)
value-cut ds some =
    let n : ℕ = length ds - 1 in
    let inside : n < length ds = omega arith in
    let count : n + 1 ≡ length ds = omega arith in
    ap (digits_value 10) (sym (take_whole ds) ∙ ap (λ m. take m ds) (sym count) ∙ take_more ds n 0 inside) ∙ value-last (take n ds) (get_or ds n 0)

-- ---- digits mixed

-- that number of digits is enough
enough : (f g n h : ℕ) → n ≤ f → n ≤ g → mix_within f n h ≡ mix_within g n h
enough zero zero n h a b = refl
enough zero (suc g) n h a b = sym (ap (λ c. if c then h else mix_within g (n / 10) (mix_digit h (n % 10))) (none n (omega (arith, a))))
  where
    none : (m : ℕ) → m ≡ 0 → (m == 0) ≡ true
    none m e = ap (λ k. k == 0) e
enough (suc f) zero n h a b = ap (λ c. if c then h else mix_within f (n / 10) (mix_digit h (n % 10))) (none n (omega (arith, b)))
  where
    none : (m : ℕ) → m ≡ 0 → (m == 0) ≡ true
    none m e = ap (λ k. k == 0) e
enough (suc f) (suc g) n h a b = by (n == 0) refl (enough f g (n / 10) (mix_digit h (n % 10)))
  where
    by : (c : Bool) → (n == 0) ≡ c → (n / 10 ≤ f → n / 10 ≤ g → mix_within f (n / 10) (mix_digit h (n % 10)) ≡ mix_within g (n / 10) (mix_digit h (n % 10)))
        → (if c then h else mix_within f (n / 10) (mix_digit h (n % 10))) ≡ (if c then h else mix_within g (n / 10) (mix_digit h (n % 10)))
    by true e rest = refl
    by false e rest = let some : n ≢ 0 = eqb-false n 0 e in rest (omega (arith, some, a)) (omega (arith, some, b))

-- the last digit first
mix_step : (n h : ℕ) → 0 < n → mix n h ≡ mix (n / 10) (mix_digit h (n % 10))
unfolding mix
mix_step zero h some = absurd (omega (arith, some))
mix_step (suc m) h some =
    ap (λ c. if c then h else mix_within m (suc m / 10) (mix_digit h (suc m % 10))) (not_none (suc m) (omega arith))
    ∙ enough m (suc m / 10) (suc m / 10) (mix_digit h (suc m % 10)) (omega arith) (omega arith)
  where
    not_none : (k : ℕ) → 0 < k → (k == 0) ≡ false
    not_none k some = by (k == 0) refl
      where
        by : (c : Bool) → (k == 0) ≡ c → c ≡ false
        by false e = refl
        by true e = absurd (let z : k ≡ 0 = eqb-true k 0 e in omega (arith, z, some))

pub mix_none : (n h : ℕ) → n ≡ 0 → mix n h ≡ h
unfolding mix
mix_none n h e = ap (λ k. mix_within k k h) e

-- the first digit last
pub mix_first : (v carry h : ℕ) → v ≡ 0 → 0 < carry → carry ≤ 1 → mix (v + carry) h ≡ mix_digit h carry
mix_first v carry h none some low =
    mix_step (v + carry) h (omega (arith, some))
    ∙ mix_none ((v + carry) / 10) (mix_digit h ((v + carry) % 10)) (omega (arith, none, low))
    ∙ ap (mix_digit h) (let e : (v + carry) % 10 ≡ carry = omega (arith, none, low) in e)

pub mix_last : (v carry h : ℕ) → v ≡ 0 → carry ≡ 0 → mix (v + carry) h ≡ h
mix_last v carry h none free = mix_none (v + carry) h (omega (arith, none, free))

pub mix_more : (v front last carry h n : ℕ) → v ≡ 10 * front + last → 0 < v + carry → n ≡ mix (v + carry) h → n ≡ mix (front + (carry + last) / 10) (mix_digit h ((carry + last) % 10))
mix_more v front last carry h n is some so_far =
    so_far ∙ mix_step (v + carry) h some
    ∙ ap (λ k. mix k (mix_digit h ((v + carry) % 10))) (let e : (v + carry) / 10 ≡ front + (carry + last) / 10 = omega (arith, is) in e)
    ∙ ap (λ k. mix (front + (carry + last) / 10) (mix_digit h k)) (let e : (v + carry) % 10 ≡ (carry + last) % 10 = omega (arith, is) in e)

-- a number whose first digit is no zero is none
pub some_value : (ds : List ℕ) → HasNoZeroInFront ds → 0 < length ds → 0 < digits_value 10 ds
some_value [] some long = absurd (omega arith)
some_value (d ∷ ds) some long =
    let p : 0 < 10 ^ length ds = power (length ds) in
    let m : 0 < digit d * 10 ^ length ds = product (digit d) (10 ^ length ds) some p in
    omega (arith, m)
  where
    power : (k : ℕ) → 0 < 10 ^ k
    power zero = omega arith
    power (suc k) = let r = power k in subst (λ n. 0 < n) (sym (pow-succ' 10 k)) (omega (arith, r))

    product : (a b : ℕ) → 0 < a → 0 < b → 0 < a * b
    product zero b s t = absurd (omega (arith, s))
    product (suc a) b s t = let e : suc a * b ≡ b + a * b = grind arith in subst (λ n. 0 < n) (sym e) (omega (arith, t))

-- a zero in front changes nothing
pub behind_zero : (ds : List ℕ) (d : ℕ) → 1 ≤ length ds → d ≡ digit (get_or ds 0 0) → d ≡ 0
    → (digits_value 10 (take (length ds - 1) (drop 1 ds)) ≡ digits_value 10 ds) × (length (take (length ds - 1) (drop 1 ds)) < length ds)
behind_zero [] d long at is = absurd (omega (arith, long))
behind_zero (x ∷ ds) d long at is =
    let less : length (x ∷ ds) - 1 ≡ length ds = omega arith in
    let rest : take (length (x ∷ ds) - 1) ds ≡ ds = ap (λ n. take n ds) less ∙ take_whole ds in
    let zero_digit : digit x * 10 ^ length ds + digits_value 10 ds ≡ 0 * 10 ^ length ds + digits_value 10 ds = ap (λ k. k * 10 ^ length ds + digits_value 10 ds) (sym at ∙ is) in
    let none : 0 * 10 ^ length ds + digits_value 10 ds ≡ digits_value 10 ds = grind arith in
    (ap (digits_value 10) rest ∙ sym (zero_digit ∙ none), subst (λ n. n < length (x ∷ ds)) (sym (ap length rest)) (omega arith))

pub first_some : (ds : List ℕ) (d : ℕ) → d ≡ digit (get_or ds 0 0) → 0 < d → HasNoZeroInFront ds
first_some [] d at some = tt
first_some (x ∷ ds) d at some = subst (λ n. 0 < n) at some

pub empty_value : (ds : List ℕ) → length ds ≡ 0 → digits_value 10 ds ≡ 0
empty_value [] e = refl
empty_value (d ∷ ds) e = absurd (omega (arith, e))
