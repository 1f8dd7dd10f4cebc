-- Numbers of statements: where a distance leads, what its halves make of a register, and the numbers of single assignments.

use Rattle.std.proofs.Common.{◌≡◌, ℕ, zero, suc, ◌+◌, ◌-◌, ◌*◌, ◌/◌, ◌%◌, ◌^◌, ◌<◌, Bool, true, false, not, refl, sym, ap, ◌∙◌, arith, ℤ, pos, negsuc, ◌-ℤ◌, ◌*ℤ◌, ◌≤ℤ◌}
use Rattle.std.specs.Prelude.{◌==◌, nat_lt, if◌then◌else◌, bit_and, bit_xor}
use Rattle.std.specs.Int.{w64, int_wrap, cast_signed}
use Rattle.std.specs.Int.Bits.{xor_add_and}
use Rattle.std.proofs.lemmas.Nat.{and_mask}
use Rattle.std.proofs.lemmas.Int.{ints}
use Rattle.std.proofs.lemmas.Bool.{ltb-true, ltb-false, le-ltb, lt-ltb, ne_eqb}
use Rattle.std.proofs.lemmas.Bool.Decides.{nat_tests}
use Rattle.rv_isa_laws.specs.Arithmetic.{wrapped, floor, extended, sum_of, shifted_left, shifted_right, shifted_right_signed}
use Rattle.rv_isa_laws.specs.Halves.{hi, lo}
use Rattle.rv_isa_laws.specs.Meaning.{upper}
use Rattle.rv_reloc_laws.specs.Fields.{modulo}
use Rattle.rv_reloc_laws.specs.Ranges.{HasUpper, IsBetween, IsOdd}
use Rattle.rv_pseudo_laws.specs.Li.{is_signed}
use Rattle.rv_pseudo_laws.proofs.ModuloLemmas.{wrapped_is, wrapped_add, wrapped_times, extended_word}
use Rattle.rv_pseudo_laws.proofs.SequencesLemmas.{high, whole_sum}
use Rattle.rv_source_laws.specs.Lines.{distance}
use Rattle.rv_source_laws.specs.Meaning.{on_the_way}
use Rattle.rv_runs_theorems.proofs.EvenLemmas.{even_wrapped}

-- ---- distances

wrapped_cast : (n : ℕ) → n < 2 ^ 64 → wrapped (cast_signed w64 n) ≡ n
wrapped_cast n below = by (nat_lt n (2 ^ 63))
  where
    by : (t : Bool) → wrapped (if t then pos n else negsuc (2 ^ 64 - suc n)) ≡ n
    by true = omega arith
    by false = omega arith

-- taken as signed, a number is the same modulo 2 ^ 64
pub wrapped_wrap : (z : ℤ) → wrapped (int_wrap w64 z) ≡ wrapped z
unfolding int_wrap
wrapped_wrap (pos n) = wrapped_cast (n % 2 ^ 64) (omega arith)
wrapped_wrap (negsuc n) = wrapped_cast (2 ^ 64 - 1 - n % 2 ^ 64) (omega arith)

-- the distance leads to the target
pub leads : (a t : ℕ) → a < 2 ^ 64 → (a + wrapped (distance a t)) % 2 ^ 64 ≡ t % 2 ^ 64
leads a t below =
    let far : wrapped (pos t -ℤ pos a) ≡ (t + (2 ^ 64 - a)) % 2 ^ 64 =
    wrapped_is (pos t -ℤ pos a) 1 (t + (2 ^ 64 - a)) (omega (arith, ints)) in
    let there : (a + (t + (2 ^ 64 - a)) % 2 ^ 64) % 2 ^ 64 ≡ t % 2 ^ 64 = omega arith in
    ap (λ x. (a + x) % 2 ^ 64) (wrapped_wrap (pos t -ℤ pos a) ∙ far) ∙ there

-- a target at an even distance from an even address is even
pub even_target : (a : ℕ) (z : ℤ) → a % 2 ≡ 0 → (IsOdd z → ⊥) → (a + wrapped z) % 2 ^ 64 % 2 ≡ 0
even_target a z e odd = let f = even_wrapped z (omega (arith, odd)) in omega arith

-- ---- the halves of a distance

pub modulo_20 : (q : ℤ) → modulo 20 q ≡ wrapped q % 2 ^ 20
modulo_20 (pos n) = omega arith
modulo_20 (negsuc n) = omega arith

fits_32 : (v : ℤ) → negsuc (2 ^ 31 - 1) ≤ℤ v → v ≤ℤ pos (2 ^ 31 - 1) → is_signed 32 v ≡ true
fits_32 (pos n) low high = grind (arith, ints, nat_tests)
fits_32 (negsuc n) low high = grind (arith, ints, nat_tests)

-- the upper part by `auipc`, where it has 20 bits with sign
upper_is : (q : ℤ) → IsBetween (negsuc (2 ^ 19 - 1)) (pos (2 ^ 19 - 1)) q → upper (modulo 20 q) ≡ wrapped (q *ℤ pos 4096)
upper_is q between =
    let low = between.0 in
    let high = between.1 in
    let same : (wrapped q % 2 ^ 20 * 2 ^ 12) % 2 ^ 32 ≡ (wrapped q * 4096) % 2 ^ 64 % 2 ^ 32 = omega arith in
    extended_word (q *ℤ pos 4096) (fits_32 (q *ℤ pos 4096) (omega (arith, ints)) (omega (arith, ints))) ((modulo 20 q * 2 ^ 12) % 2 ^ 32)
    (ap (λ x. (x * 2 ^ 12) % 2 ^ 32) (modulo_20 q) ∙ same ∙ ap (λ x. x % 2 ^ 32) (sym (wrapped_times q 4096)))

-- an address and the upper part of a distance
abbrev pub halfway : ℕ → ℤ → ℕ
halfway a d = sum_of a (upper (modulo 20 (hi d)))

-- the lower part leads on to the target
pub leads_on : (a : ℕ) (d : ℤ) → HasUpper d → (halfway a d + wrapped (lo d)) % 2 ^ 64 ≡ (a + wrapped d) % 2 ^ 64
leads_on a d has =
    let joined : ((a + high d) % 2 ^ 64 + wrapped (lo d)) % 2 ^ 64 ≡ (a + (high d + wrapped (lo d)) % 2 ^ 64) % 2 ^ 64 = omega arith in
    ap (λ u. ((a + u) % 2 ^ 64 + wrapped (lo d)) % 2 ^ 64) (upper_is (hi d) has) ∙ joined
    ∙ ap (λ x. (a + x) % 2 ^ 64) (sym (whole_sum d))

turned : (q : ℤ) → pos 4096 *ℤ q ≡ q *ℤ pos 4096
turned (pos n) = omega (arith, ints)
turned (negsuc n) = omega (arith, ints)

-- so is what the register holds on the way
pub on_way : (a t : ℕ) → a < 2 ^ 64 → HasUpper (distance a t) → halfway a (distance a t) ≡ on_the_way a t
on_way a t below has =
    let d = distance a t in
    let whole : (a % 2 ^ 64 + wrapped (hi d *ℤ pos 4096)) % 2 ^ 64 ≡ (a + wrapped (hi d *ℤ pos 4096)) % 2 ^ 64 = omega arith in
    ap (λ u. (a + u) % 2 ^ 64) (upper_is (hi d) has)
    ∙ sym whole
    ∙ ap (λ z. (a % 2 ^ 64 + wrapped z) % 2 ^ 64) (sym (turned (hi d)))
    ∙ sym (wrapped_add (pos a) (pos 4096 *ℤ hi d))

-- ---- single assignments

pub complement : (a : ℕ) → a < 2 ^ 64 → bit_xor a (2 ^ 64 - 1) ≡ 2 ^ 64 - 1 - a
complement a below =
    let all : bit_and a (2 ^ 64 - 1) ≡ a % 2 ^ 64 = and_mask a 64 in
    let both : bit_xor a (2 ^ 64 - 1) + bit_and a (2 ^ 64 - 1) * 2 ≡ a + (2 ^ 64 - 1) = xor_add_and a (2 ^ 64 - 1) in
    omega arith

pub low_byte : (a : ℕ) → bit_and a 255 ≡ a % 2 ^ 8
low_byte a = and_mask a 8

pub none_below_one : (a : ℕ) → nat_lt a 1 ≡ (a == 0)
none_below_one zero = refl
none_below_one (suc n) = le-ltb (suc n) 1 (omega arith) ∙ sym (ne_eqb (suc n) 0 (λ e. omega arith))

pub some_above : (a : ℕ) → nat_lt 0 a ≡ not (a == 0)
some_above zero = refl
some_above (suc n) = lt-ltb 0 (suc n) (omega arith) ∙ ap not (sym (ne_eqb (suc n) 0 (λ e. omega arith)))

-- ---- the low bits of a number, by two shifts

floor_as : (t u : Bool) (x m k low : ℕ) → (t ≡ true → u ≡ true → x / k ≡ m) → (t ≡ false → u ≡ false → (2 ^ 64 - suc x) / k ≡ low - suc m)
    → (t ≡ true → u ≡ false → ⊥) → (t ≡ false → u ≡ true → ⊥)
    → floor (if t then pos x else negsuc (2 ^ 64 - suc x)) k ≡ (if u then pos m else negsuc (low - suc m))
floor_as true true x m k low f g a b = ap pos (f refl refl)
floor_as false false x m k low f g a b = ap negsuc (g refl refl)
floor_as true false x m k low f g a b = absurd (a refl refl)
floor_as false true x m k low f g a b = absurd (b refl refl)

pub signed_byte : (a : ℕ) → shifted_right_signed (shifted_left a 56) 56 ≡ extended 8 (a % 2 ^ 8)
signed_byte a =
    let x = (a * 2 ^ 56) % 2 ^ 64 in
    let m = a % 2 ^ 8 in
    ap wrapped
    (floor_as (nat_lt x (2 ^ 63)) (nat_lt m (2 ^ 7)) x m (2 ^ 56) (2 ^ 8)
    (λ t u. omega arith)
    (λ t u. omega arith)
    (λ t u. let l = ltb-true x (2 ^ 63) t in let h = ltb-false m (2 ^ 7) u in omega arith)
    (λ t u. let l = ltb-false x (2 ^ 63) t in let h = ltb-true m (2 ^ 7) u in omega arith))

pub signed_half : (a : ℕ) → shifted_right_signed (shifted_left a 48) 48 ≡ extended 16 (a % 2 ^ 16)
signed_half a =
    let x = (a * 2 ^ 48) % 2 ^ 64 in
    let m = a % 2 ^ 16 in
    ap wrapped
    (floor_as (nat_lt x (2 ^ 63)) (nat_lt m (2 ^ 15)) x m (2 ^ 48) (2 ^ 16)
    (λ t u. omega arith)
    (λ t u. omega arith)
    (λ t u. let l = ltb-true x (2 ^ 63) t in let h = ltb-false m (2 ^ 15) u in omega arith)
    (λ t u. let l = ltb-false x (2 ^ 63) t in let h = ltb-true m (2 ^ 15) u in omega arith))

pub low_half : (a : ℕ) → shifted_right (shifted_left a 48) 48 ≡ a % 2 ^ 16
low_half a = omega arith

pub low_word : (a : ℕ) → shifted_right (shifted_left a 32) 32 ≡ a % 2 ^ 32
low_word a = omega arith
