-- Numbers: their tests, remainders and steps by one.

use Rattle.std.proofs.Common.{◌≡◌, ℕ, ◌<◌, false, arith, true, rules, suc, ◌≤◌, ◌^◌, ◌%◌, sym, ◌∙◌, eq-eqb, ◌+◌, ◌-◌, min, max, ◌⊎◌, inl, inr}
use Rattle.std.specs.Prelude.{◌==◌, nat_le, nat_lt}
use Rattle.std.proofs.lemmas.Bool.Decides.{nat_tests}
use Rattle.std.proofs.Math.Pow.{pow_mono}
use Rattle.std.proofs.lemmas.Bool.{true≢false, cases_lt}

pub eq_below : (k j : ℕ) → k < j → (k == j) ≡ false
eq_below k j h = grind (arith, nat_tests)

pub eq_self : (n : ℕ) → (n == n) ≡ true
eq_self n = search rules

pub eq_suc : (m n : ℕ) → (suc m == suc n) ≡ (m == n)
eq_suc m n = grind arith

pub eq_swap : (a b : ℕ) → (a == b) ≡ (b == a)
eq_swap a b = grind (arith)

pub le_false : (m n : ℕ) → n < m → nat_le m n ≡ false
le_false m n h = grind (arith, nat_tests)

pub le_true : (m n : ℕ) → m ≤ n → nat_le m n ≡ true
le_true m n h = grind (arith, nat_tests)

pub low_power : (k : ℕ) → k < 13 → 2 ^ k ≤ 4096
low_power k h = let less : k ≤ 12 = omega (arith, h) in let most : 2 ^ k ≤ 2 ^ 12 = pow_mono less in most

pub lt_true : (n m : ℕ) → n < m → nat_lt n m ≡ true
lt_true n m h = grind (arith, nat_tests)

pub mod_below : (n : ℕ) → n % 2 ^ 64 < 2 ^ 64
mod_below n = omega arith

pub mod_twice : (a : ℕ) → a % 2 ^ 64 % 2 ^ 64 ≡ a % 2 ^ 64
mod_twice a = omega arith

pub not_equal : (k i : ℕ) → (k == i) ≡ false → k ≡ i → ⊥
not_equal k i e h = true≢false (sym (eq-eqb k i h) ∙ e)

pub span_within : (o n k a b base : ℕ) → base ≤ o → a ≤ b → (p q e : ℕ) → e ≡ o + n → p ≤ q + (b - max a e)
    → min (n - k) (b - (o + k)) + p ≤ min (n - k) (a - (o + k)) + q + (b - max a base)
span_within o n k a b base f le p q e is rest = omega arith

pub step_down : (i high j : ℕ) → 0 < i → i - 1 ≤ j → j < high → ((i ≤ j) × (j < high)) ⊎ (j ≡ i - 1)
step_down i high j some a b = elim (cases_lt j i) [ inl before ↦ inr (omega arith) | inr after ↦ inl (after, b) ]

pub step_up : (i j : ℕ) → 0 ≤ j → j < i + 1 → ((0 ≤ j) × (j < i)) ⊎ (j ≡ i)
step_up i j a b = elim (cases_lt j i) [ inl before ↦ inl (a, before) | inr after ↦ inr (omega arith) ]

pub suc_is_next : (i : ℕ) → suc i ≡ i + 1
suc_is_next i = omega arith
