-- Numbers of seven bits a byte.

use Rattle.std.proofs.Common.{◌≡◌, ◌∙◌, Option, ℕ, suc, ◌+◌, ◌-◌, ◌*◌, ◌/◌, ◌%◌, ◌<◌, ◌≤◌, Bool, true, false, pos, negsuc, ◌+ℤ◌, ◌*ℤ◌, List, [], ◌∷◌, length, Some, ap, refl, arith}
use Rattle.std.proofs.lemmas.Bool.{lt-ltb, le-ltb}
use Rattle.std.proofs.lemmas.Int.{ints}
use Rattle.rv_debug_laws.specs.Leb128.{unsigned_at, signed_at, IsUnsigned, IsSigned}
use Rattle.rv_debug.specs.Writing.{signed, bits}

same_read : {A : Type 0} (a b : A) (c d : ℕ) → a ≡ b → c ≡ d → ◌≡◌ {A = Option (A × ℕ)} (Some (a, c)) (Some (b, d))
same_read a b c d h k = ap (λ v. Some (v, c)) h ∙ ap (λ e. Some (b, e)) k

-- the last byte
pub unsigned_last : (n : ℕ) → n < 128 → IsUnsigned (n ∷ []) n
unfolding unsigned_at
unsigned_last n h = record { read = λ rest. rw (lt-ltb n 128 h) refl }

-- a byte before others
pub unsigned_more : (n : ℕ) (tail : List ℕ) → 128 ≤ n → IsUnsigned tail (n / 128) → IsUnsigned ((n % 128 + 128) ∷ tail) n
unfolding unsigned_at
unsigned_more n tail h high = record {
  read = λ rest.
      let number : n % 128 + 128 - 128 + 128 * (n / 128) ≡ n = omega arith in
      let count : 1 + length tail ≡ length ((n % 128 + 128) ∷ tail) = omega arith in
      rw (le-ltb (n % 128 + 128) 128 (omega arith), high.read rest)
      (same_read _ _ _ _ number count);
}

-- the same of signed numbers
pub signed_last : (negative : Bool) (n : ℕ) → n < 64 → IsSigned (bits negative n ∷ []) (signed negative n)
unfolding signed_at
signed_last false n h = record { read = λ rest. rw (lt-ltb n 64 h) refl }
signed_last true n h = record {
  read = λ rest.
      -- `-ℤ` is itself a test against 128, which the second step decides too
      let below : 128 - suc (127 - n) ≡ n = omega arith in
      rw (le-ltb (127 - n) 64 (omega arith), lt-ltb (127 - n) 128 (omega arith)) (ap (λ m. Some (negsuc m, 1)) below);
}

pub signed_more : (negative : Bool) (n : ℕ) (tail : List ℕ) → 64 ≤ n → IsSigned tail (signed negative (n / 128)) →
    IsSigned ((bits negative (n % 128) + 128) ∷ tail) (signed negative n)
unfolding signed_at
signed_more false n tail h high = record {
  read = λ rest.
      let number : pos (n % 128 + 128 - 128) +ℤ pos 128 *ℤ pos (n / 128) ≡ pos n = omega (arith, ints) in
      let count : 1 + length tail ≡ length ((n % 128 + 128) ∷ tail) = omega arith in
      rw (le-ltb (n % 128 + 128) 64 (omega arith), le-ltb (n % 128 + 128) 128 (omega arith), high.read rest)
      (same_read _ _ _ _ number count);
}
signed_more true n tail h high = record {
  read = λ rest.
      let number : pos (127 - n % 128 + 128 - 128) +ℤ pos 128 *ℤ negsuc (n / 128) ≡ negsuc n = omega (arith, ints) in
      let count : 1 + length tail ≡ length ((127 - n % 128 + 128) ∷ tail) = omega arith in
      rw (le-ltb (127 - n % 128 + 128) 64 (omega arith), le-ltb (127 - n % 128 + 128) 128 (omega arith), high.read rest)
      (same_read _ _ _ _ number count);
}
