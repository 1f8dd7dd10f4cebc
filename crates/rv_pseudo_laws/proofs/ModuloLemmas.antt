-- Whole numbers with sign modulo 2 ^ 64, their sums and multiples; numbers of 32 bits.

use Rattle.std.proofs.Common.{◌≡◌, ℕ, zero, suc, ◌+◌, ◌*◌, ◌/◌, ◌%◌, ◌^◌, ◌<◌, ◌≤◌, true, false, refl, sym, ap, ◌∙◌, arith, ℤ, pos, negsuc, ◌+ℤ◌, ◌-ℤ◌, ◌*ℤ◌, neg_ℤ, ◌≤ℤ◌, ◌<ℤ◌, ◌⊎◌, inl, inr, ◌≢◌, unsigned_abs, suc-le-suc}
use Rattle.std.proofs.Math.Nat.{mul-zero, mul-suc, div-le_self, le_trans}
use Rattle.std.proofs.Math.IntN.{negsuc-*ℤ-pos}
use Rattle.std.proofs.lemmas.Int.{ints}
use Rattle.std.proofs.lemmas.Bool.Decides.{nat_tests}
use Rattle.rv_isa.specs.Ranges.{IsSigned12}
use Rattle.rv_isa_laws.specs.Arithmetic.{wrapped, floor, signed, extended}
use Rattle.rv_isa_laws.specs.Halves.{hi, lo}
use Rattle.rv_pseudo_laws.specs.Li.{is_signed, zeros, above}

-- ---- wrapped numbers

pub wrapped_is : (z : ℤ) (k m : ℕ) → z +ℤ pos (k * 2 ^ 64) ≡ pos m → wrapped z ≡ m % 2 ^ 64
wrapped_is (pos n) k m e = omega (arith, ints)
wrapped_is (negsuc n) k m e = omega (arith, ints)

pub wrapped_below : (z : ℤ) → wrapped z < 2 ^ 64
wrapped_below (pos n) = omega arith
wrapped_below (negsuc n) = omega arith

-- how far a number is from its wrapped one, in multiples of 2 ^ 64 up and down
record Balance (z : ℤ) : Type 0 where
  up : ℕ
  down : ℕ
  is : z +ℤ pos (up * 2 ^ 64) ≡ pos (wrapped z + down * 2 ^ 64)

balance : (z : ℤ) → Balance z
balance (pos n) = record { up = 0; down = n / 2 ^ 64; is = omega (arith, ints) }
balance (negsuc n) = record { up = n / 2 ^ 64 + 1; down = 0; is = omega (arith, ints) }

added : (a b : ℤ) (wa wb ua ub da db : ℕ)
    → a +ℤ pos (ua * 2 ^ 64) ≡ pos (wa + da * 2 ^ 64) → b +ℤ pos (ub * 2 ^ 64) ≡ pos (wb + db * 2 ^ 64)
    → (a +ℤ b) +ℤ pos ((ua + ub) * 2 ^ 64) ≡ pos (wa + wb + (da + db) * 2 ^ 64)
added a b wa wb ua ub da db e f = omega (arith, ints)

pub wrapped_add : (a b : ℤ) → wrapped (a +ℤ b) ≡ (wrapped a + wrapped b) % 2 ^ 64
wrapped_add a b =
    let p = balance a in
    let q = balance b in
    let wa = wrapped a in
    let wb = wrapped b in
    let modulo : (wa + wb + (p.down + q.down) * 2 ^ 64) % 2 ^ 64 ≡ (wa + wb) % 2 ^ 64 = omega arith in
    wrapped_is (a +ℤ b) (p.up + q.up) (wa + wb + (p.down + q.down) * 2 ^ 64) (added a b wa wb p.up q.up p.down q.down p.is q.is) ∙ modulo

one_more : (w m t : ℕ) → t ≡ w * m → (t % 2 ^ 64 + w) % 2 ^ 64 ≡ (w * suc m) % 2 ^ 64
one_more w m t e = grind arith

none_times : (a : ℤ) → a *ℤ pos 0 ≡ pos 0
none_times (pos n) = ap pos (mul-zero n)
none_times (negsuc n) = negsuc-*ℤ-pos n 0 ∙ ap (λ x. neg_ℤ (pos x)) (mul-zero (suc n))

more_times : (a : ℤ) (m : ℕ) → a *ℤ pos (suc m) ≡ a *ℤ pos m +ℤ a
more_times (pos n) m = ap pos (mul-suc n m)
more_times (negsuc n) m = grind (arith, ints, negsuc-*ℤ-pos)

pub wrapped_times : (a : ℤ) (m : ℕ) → wrapped (a *ℤ pos m) ≡ (wrapped a * m) % 2 ^ 64
wrapped_times a zero = ap wrapped (none_times a) ∙ ap (λ t. t % 2 ^ 64) (sym (mul-zero (wrapped a)))
wrapped_times a (suc m) =
    ap wrapped (more_times a m) ∙ wrapped_add (a *ℤ pos m) a ∙ ap (λ t. (t + wrapped a) % 2 ^ 64) (wrapped_times a m) ∙ one_more (wrapped a) m (wrapped a * m) refl

-- ---- the halves

-- a number is its upper half, times 4096, and its lower half
pub halves_whole : (v : ℤ) → v ≡ hi v *ℤ pos 4096 +ℤ lo v
halves_whole v = omega (arith, ints)

rest_within : (z : ℤ) → (pos 0 ≤ℤ (z -ℤ pos 4096 *ℤ floor z 4096)) × ((z -ℤ pos 4096 *ℤ floor z 4096) ≤ℤ pos 4095)
rest_within (pos n) = (omega (arith, ints), omega (arith, ints))
rest_within (negsuc n) = (omega (arith, ints), omega (arith, ints))

pub lo_range : (v : ℤ) → IsSigned12 (lo v)
lo_range v =
    let r = rest_within (v +ℤ pos 2048) in
    let low = r.0 in
    let high = r.1 in
    (omega (arith, ints), omega (arith, ints))

floor_within : (z : ℤ) (b : ℕ) → pos 0 ≤ℤ (z +ℤ pos (4096 * b)) → z ≤ℤ pos (4096 * b + 2048) → unsigned_abs (floor z 4096) ≤ b
floor_within (pos n) b low high = omega (arith, ints)
floor_within (negsuc n) b low high = omega (arith, ints)

above_least : (v : ℤ) (m : ℕ) → unsigned_abs v ≤ m → pos 0 ≤ℤ ((v +ℤ pos 2048) +ℤ pos m)
above_least (pos n) m h = omega (arith, ints)
above_least (negsuc n) m h = omega (arith, ints)

below_most : (v : ℤ) (m : ℕ) → unsigned_abs v ≤ m → (v +ℤ pos 2048) ≤ℤ pos (m + 2048)
below_most (pos n) m h = omega (arith, ints)
below_most (negsuc n) m h = omega (arith, ints)

pub hi_within : (v : ℤ) (b : ℕ) → unsigned_abs v ≤ 4096 * b → unsigned_abs (hi v) ≤ b
hi_within v b h = floor_within (v +ℤ pos 2048) b (above_least v (4096 * b) h) (below_most v (4096 * b) h)

floor_some : (z : ℤ) → (pos 4096 ≤ℤ z) ⊎ (z <ℤ pos 0) → floor z 4096 ≢ pos 0
floor_some (pos n) (inl h) e = omega (arith, ints)
floor_some (pos n) (inr h) e = omega (arith, ints)
floor_some (negsuc n) s e = omega (arith, ints)

pub hi_some : (v : ℤ) → is_signed 32 v ≡ false → hi v ≢ pos 0
hi_some (pos n) long = floor_some (pos n +ℤ pos 2048) (inl (grind (arith, ints, nat_tests)))
hi_some (negsuc n) long = floor_some (negsuc n +ℤ pos 2048) (inr (grind (arith, ints, nat_tests)))

pub floor_closer : (z : ℤ) (m : ℕ) → unsigned_abs (floor z m) ≤ unsigned_abs z
floor_closer (pos n) m = div-le_self n m
floor_closer (negsuc n) m = suc-le-suc (div-le_self n m)

pub above_within : (v : ℤ) (b : ℕ) → unsigned_abs v ≤ 4096 * b → unsigned_abs (above v) ≤ b
above_within v b h = le_trans (floor_closer (hi v) (2 ^ zeros v)) (hi_within v b h)

-- ---- numbers of 32 bits

pub signed_word : (v : ℤ) → is_signed 32 v ≡ true → (n : ℕ) → n ≡ wrapped v % 2 ^ 32 → signed 32 n ≡ v
signed_word (pos a) fits n e = grind (arith, ints, nat_tests)
signed_word (negsuc a) fits n e = grind (arith, ints, nat_tests)

pub extended_word : (v : ℤ) → is_signed 32 v ≡ true → (n : ℕ) → n ≡ wrapped v % 2 ^ 32 → extended 32 n ≡ wrapped v
extended_word v fits n e = ap wrapped (signed_word v fits n e)

pub extended_low : (n : ℕ) → n < 2 ^ 32 → extended 32 n % 2 ^ 32 ≡ n
extended_low n below = grind (arith, nat_tests)

pub signed_12 : (v : ℤ) → is_signed 12 v ≡ true → IsSigned12 v
signed_12 (pos n) fits = grind (arith, ints, nat_tests)
signed_12 (negsuc n) fits = grind (arith, ints, nat_tests)
