-- Where memory is free: beside the stack, and below the last page.

use Rattle.std.proofs.Common.{◌≡◌, ℕ, ◌≤◌, ◌<◌, ◌⊎◌, inl, inr, Bool, true, false, nat_lt, refl, subst, arith}
use Rattle.std.proofs.lemmas.Bool.{cond-true, cond-false}
use Rattle.std.proofs.lemmas.Bool.Decides.{nat_tests}
use Rattle.rv_isa_laws.specs.Platform.{stack_start, stack_end}
use Rattle.rv_image_laws.specs.Free.{highest, free_until}

below_from : (a b : ℕ) → nat_lt a b ≡ true → a < b
below_from a b e = grind (arith, nat_tests)

above_from : (a b : ℕ) → nat_lt a b ≡ false → b ≤ a
above_from a b e = grind (arith, nat_tests)

-- up to the stack, or behind it up to the last page
pub free_is : (a : ℕ) → ((a < stack_end) × (free_until a ≡ stack_start)) ⊎ ((stack_end ≤ a) × (free_until a ≡ highest))
free_is a = go (nat_lt a stack_end) refl
  where
    go : (b : Bool) → nat_lt a stack_end ≡ b → ((a < stack_end) × (free_until a ≡ stack_start)) ⊎ ((stack_end ≤ a) × (free_until a ≡ highest))
    go true e = inl (below_from a stack_end e, cond-true (nat_lt a stack_end) stack_start highest e)
    go false e = inr (above_from a stack_end e, cond-false (nat_lt a stack_end) stack_start highest e)

-- the last page is never free
pub free_low : (a : ℕ) → free_until a ≤ highest
free_low a = elim (free_is a) [
  | inl below ↦ rw below.1 (omega arith)
  | inr above ↦ rw above.1 (omega arith)
]

-- what ends by there meets no byte of the stack
pub free_apart : (a end : ℕ) → end ≤ free_until a → (end ≤ stack_start) ⊎ (stack_end ≤ a)
free_apart a end h = elim (free_is a) [
  | inl below ↦ inl (subst (λ n. end ≤ n) below.1 h)
  | inr above ↦ inr above.0
]

-- from below the stack on it is free up to the stack
pub free_below : (a : ℕ) → a < stack_start → free_until a ≡ stack_start
free_below a low = elim (free_is a) [
  | inl below ↦ below.1
  | inr above ↦ absurd (omega (arith, low, above.0))
]
