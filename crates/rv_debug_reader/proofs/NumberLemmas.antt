-- Numbers of seven bits a byte, byte by byte.

use Rattle.std.proofs.Common.{◌≡◌, ℕ, ◌+◌, ◌-◌, ◌*◌, ◌<◌, ◌≤◌, List, ◌∷◌, Bool, Some, true, false, refl, arith, ap, sym, ◌∙◌}
use Rattle.std.specs.Prelude.{ℤ, pos, ◌+ℤ◌, ◌-ℤ◌, ◌*ℤ◌, nat_lt, if◌then◌else◌}
use Rattle.std.specs.Option.{option_map}
use Rattle.std.proofs.lemmas.Bool.Decides.{nat_tests}
use Rattle.rv_debug_laws.specs.Leb128.{unsigned_at, signed_at}

pub last_byte : (bytes : List ℕ) (b : ℕ) (bs : List ℕ) (number : ℕ) → bytes ≡ b ∷ bs → b < 128 → number ≡ b →
    unsigned_at bytes ≡ Some (number, 1)
unfolding unsigned_at
last_byte bytes b bs number is low value = let e : nat_lt b 128 ≡ true = grind (arith, nat_tests) in rw (is, e, value) refl

pub more_bytes : (bytes : List ℕ) (b : ℕ) (bs : List ℕ) (n k number : ℕ) → bytes ≡ b ∷ bs → 128 ≤ b → unsigned_at bs ≡ Some (n, k) →
    number ≡ b - 128 + 128 * n → unsigned_at bytes ≡ Some (number, k + 1)
unfolding unsigned_at
more_bytes bytes b bs n k number is high read value =
    let e : nat_lt b 128 ≡ false = grind (arith, nat_tests) in
    let f : 1 + k ≡ k + 1 = omega arith in
    rw (is, e, read, value) (ap (λ (c : ℕ). Some (b - 128 + 128 * n, c)) f)

pub low_byte : (bytes : List ℕ) (b : ℕ) (bs : List ℕ) (number : ℤ) → bytes ≡ b ∷ bs → b < 64 → number ≡ pos b →
    signed_at bytes ≡ Some (number, 1)
unfolding signed_at
low_byte bytes b bs number is low value = let e : nat_lt b 64 ≡ true = grind (arith, nat_tests) in rw (is, e, value) refl

pub negative_byte : (bytes : List ℕ) (b : ℕ) (bs : List ℕ) (number : ℤ) → bytes ≡ b ∷ bs → 64 ≤ b → b < 128 → number ≡ pos b -ℤ pos 128 →
    signed_at bytes ≡ Some (number, 1)
unfolding signed_at
negative_byte bytes b bs number is low high value =
    let e : nat_lt b 64 ≡ false = grind (arith, nat_tests) in
    let f : nat_lt b 128 ≡ true = grind (arith, nat_tests) in
    rw (is, e)
    (ap (λ (t : Bool). if t then Some (pos b -ℤ pos 128, 1)
    else option_map (λ (high : ℤ × ℕ). (pos (b - 128) +ℤ pos 128 *ℤ high.0, 1 + high.1)) (signed_at bs)) f
    ∙ ap (λ (z : ℤ). Some (z, 1)) (sym value))

pub more_signed : (bytes : List ℕ) (b : ℕ) (bs : List ℕ) (z : ℤ) (k : ℕ) (number : ℤ) → bytes ≡ b ∷ bs → 128 ≤ b → signed_at bs ≡ Some (z, k) →
    number ≡ pos (b - 128) +ℤ pos 128 *ℤ z → signed_at bytes ≡ Some (number, k + 1)
unfolding signed_at
more_signed bytes b bs z k number is high read value =
    let e : nat_lt b 64 ≡ false = grind (arith, nat_tests) in
    let f : nat_lt b 128 ≡ false = grind (arith, nat_tests) in
    let g : 1 + k ≡ k + 1 = omega arith in
    rw (is, e, f, read, value) (ap (λ (c : ℕ). Some (pos (b - 128) +ℤ pos 128 *ℤ z, c)) g)
