-- The zero bits that a number ends with: it is a multiple of that power of two.

use Rattle.std.proofs.Common.{◌≡◌, ◌≢◌, ℕ, zero, suc, ◌+◌, ◌-◌, ◌*◌, ◌/◌, ◌%◌, ◌^◌, ◌<◌, ◌≤◌, refl, sym, ap, ◌∙◌, arith, ℤ, pos, negsuc, neg_ℤ, ◌*ℤ◌, unsigned_abs}
use Rattle.std.specs.Int.Count.{count_trailing_zeros, under}
use Rattle.std.proofs.Math.Nat.{pow-suc, pow-succ', div-div-eq-div-mul, mul-div_left, one-le-pow}
use Rattle.std.proofs.Math.Pow.{pow-lt}
use Rattle.std.proofs.Math.IntN.{pos-*ℤ-pos, negsuc-*ℤ-pos}
use Rattle.rv_isa_laws.specs.Arithmetic.{floor}
use Rattle.std.proofs.lemmas.Nat.{div-mul-add}

-- a number is a multiple
pub record IsMultiple (n m : ℕ) : Type 0 where
  pub times : ℕ
  pub is : n ≡ times * m

doubled : (n q t : ℕ) → n % 2 ≡ 0 → n / 2 ≡ q * 2 ^ t → n ≡ q * 2 ^ suc t
doubled n q t even half =
    let twice : n ≡ n / 2 * 2 = omega arith in
    let spread : q * 2 ^ t * 2 ≡ q * (2 ^ t * 2) = grind arith in
    twice ∙ ap (λ h. h * 2) half ∙ spread ∙ ap (λ p. q * p) (sym (pow-suc 2 t))

multiple_by : (n d t : ℕ) → n % 2 ≡ d → IsMultiple (n / 2) (2 ^ t) → IsMultiple n (2 ^ under d t)
multiple_by n zero t e half = record { times = half.times; is = doubled n half.times t e half.is }
multiple_by n (suc d) t e half = record { times = n; is = omega arith }

pub zeros_multiple : (k n : ℕ) → IsMultiple n (2 ^ count_trailing_zeros k n)
unfolding count_trailing_zeros
zeros_multiple zero n = record { times = n; is = omega arith }
zeros_multiple (suc k) n = multiple_by n (n % 2) (count_trailing_zeros k (n / 2)) refl (zeros_multiple k (n / 2))

-- a power that is no greater has no greater exponent
pub exponent_within : (a b : ℕ) → 2 ^ a ≤ 2 ^ b → a ≤ b
exponent_within a b h = grind (arith, pow-lt)

some_times : (n q m : ℕ) → n ≡ q * m → 0 < n → 0 < q
some_times n zero m e some = absurd (omega arith)
some_times n (suc q) m e some = omega arith

at_least : (n q m : ℕ) → n ≡ q * m → 0 < q → m ≤ n
at_least n zero m e some = absurd (omega arith)
at_least n (suc q) m e some = grind arith

pub zeros_within : (k n b : ℕ) → 0 < n → n ≤ 2 ^ b → count_trailing_zeros k n ≤ b
zeros_within k n b some below =
    let m = zeros_multiple k n in
    let least : 2 ^ count_trailing_zeros k n ≤ n = at_least n m.times _ m.is (some_times n m.times _ m.is some) in
    let within : 2 ^ count_trailing_zeros k n ≤ 2 ^ b = omega arith in
    exponent_within (count_trailing_zeros k n) b within

-- a multiple of a number is its quotient by that number, times it
pub floor_times : (h : ℤ) (m : ℕ) → 0 < m → IsMultiple (unsigned_abs h) m → floor h m *ℤ pos m ≡ h
floor_times (pos n) m some k =
    let quotient : n / m ≡ k.times = ap (λ x. x / m) k.is ∙ mul-div_left k.times some in
    pos-*ℤ-pos (n / m) m ∙ ap (λ q. pos (q * m)) quotient ∙ ap pos (sym k.is)
floor_times (negsuc n) m some k = negative n m k.times some k.is where
  negative : (n m q : ℕ) → 0 < m → suc n ≡ q * m → negsuc (n / m) *ℤ pos m ≡ negsuc n
  negative n m zero some e = absurd (omega arith)
  negative n m (suc q) some e =
      let below : n ≡ q * m + (m - 1) = grind arith in
      let quotient : n / m ≡ q = ap (λ x. x / m) below ∙ div-mul-add q m (m - 1) (omega arith) in
      negsuc-*ℤ-pos (n / m) m ∙ ap (λ x. neg_ℤ (pos (suc x * m))) quotient ∙ ap (λ x. neg_ℤ (pos x)) (sym e)

pub abs_some : (h : ℤ) → h ≢ pos 0 → 0 < unsigned_abs h
abs_some (pos zero) some = absurd (some refl)
abs_some (pos (suc n)) some = omega arith
abs_some (negsuc n) some = omega arith

-- what is left without the zero bits is odd
odd_by : (n d t : ℕ) → n % 2 ≡ d → 0 < n → (0 < n / 2 → n / 2 / 2 ^ t % 2 ≡ 1) → n / 2 ^ under d t % 2 ≡ 1
odd_by n zero t e some half =
    let more : 0 < n / 2 = omega arith in
    ap (λ m. n / m % 2) (pow-succ' 2 t) ∙ ap (λ q. q % 2) (sym (div-div-eq-div-mul n 2 (2 ^ t))) ∙ half more
odd_by n (suc d) t e some half = let odd : n % 2 ≡ 1 = omega arith in let all : n / 1 ≡ n = omega arith in ap (λ q. q % 2) all ∙ odd

quotient_odd : (k n : ℕ) → 0 < n → n < 2 ^ k → n / 2 ^ count_trailing_zeros k n % 2 ≡ 1
unfolding count_trailing_zeros
quotient_odd zero n some below = absurd (omega arith)
quotient_odd (suc k) n some below = odd_by n (n % 2) (count_trailing_zeros k (n / 2)) refl some (λ more. quotient_odd k (n / 2) more (omega (arith, pow-suc 2 k)))

pub floor_odd : (h : ℤ) → 0 < unsigned_abs h → unsigned_abs h ≤ 2 ^ 51 → unsigned_abs (floor h (2 ^ count_trailing_zeros 64 (unsigned_abs h))) % 2 ≡ 1
floor_odd (pos n) some below = quotient_odd 64 n some (omega arith)
floor_odd (negsuc n) some below =
    let odd = quotient_odd 64 (suc n) some (omega arith) in
    ap (λ q. q % 2) (negative (2 ^ count_trailing_zeros 64 (suc n)) n (one-le-pow _ 2 (omega arith)) (zeros_multiple 64 (suc n))) ∙ odd where
      parts : (m n q : ℕ) → 0 < m → suc n ≡ q * m → suc (n / m) ≡ suc n / m
      parts m n zero some e = absurd (omega arith)
      parts m n (suc q) some e =
          let below : n ≡ q * m + (m - 1) = grind arith in
          let quotient : n / m ≡ q = ap (λ x. x / m) below ∙ div-mul-add q m (m - 1) (omega arith) in
          ap suc quotient ∙ sym (ap (λ x. x / m) e ∙ mul-div_left (suc q) some)

      negative : (m n : ℕ) → 0 < m → IsMultiple (suc n) m → suc (n / m) ≡ suc n / m
      negative m n some k = parts m n k.times some k.is
