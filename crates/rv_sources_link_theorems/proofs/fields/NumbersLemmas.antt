-- The values of relocations of data, and what their fields hold of them: an address, or the difference of two.

use Rattle.std.proofs.Common.{◌≡◌, ℕ, suc, ◌+◌, ◌-◌, ◌*◌, ◌/◌, ◌%◌, ◌<◌, Bool, true, false, [], ◌∷◌, refl, ap, ◌∙◌, subst, arith}
use Rattle.std.proofs.lemmas.Int.{int_rem_euclid_is, int_wrap-add_right, ints}
use Rattle.std.specs.Prelude.{◌^◌, ℤ, pos, negsuc, ◌+ℤ◌, ◌-ℤ◌, nat_lt, unsigned_abs, if◌then◌else◌}
use Rattle.std.specs.Int.{w64, int_wrap, cast_signed}
use Rattle.rv_isa.specs.declared.kind.Kind.TheVariants.{Abs32, Abs64, Add8, Add16, Add32, Add64, Sub8, Sub16, Sub32, Sub64}
use Rattle.rv_isa_laws.specs.Bytes.{little_endian, number_in, zeros}
use Rattle.rv_reloc_laws.specs.Fields.{modulo, patched}
use Rattle.rv_expression_laws.specs.Values.{add, subtract}

-- S + A, where A wraps
abbrev pub worth : ℕ → ℕ → ℤ
worth s k = int_wrap w64 (pos s +ℤ int_wrap w64 (pos k))

signed_of : (s k : ℕ) → worth s k ≡ cast_signed w64 ((s + k) % 2 ^ 64)
unfolding int_wrap
signed_of s k = int_wrap-add_right w64 (pos s) (pos k)

modulo_is : (bits : ℕ) (z : ℤ) (k m : ℕ) → 0 < 2 ^ bits → z +ℤ pos (k * 2 ^ bits) ≡ pos m → modulo bits z ≡ m % 2 ^ bits
modulo_is bits z k m some e = ap unsigned_abs (int_rem_euclid_is z (pos (2 ^ bits)) (2 ^ bits) k m some refl e)

-- a signed number is its bits, or lies 2 ^ 64 below them
by_sign : (P : ℤ → Type 0) (n : ℕ) → n < 2 ^ 64 → P (pos n) → P (negsuc (2 ^ 64 - 1 - n)) → P (cast_signed w64 n)
by_sign P n h p q = go (nat_lt n (2 ^ 63)) p (subst (λ a. P (negsuc a)) (let e : 2 ^ 64 - 1 - n ≡ 2 ^ 64 - suc n = omega arith in e) q)
  where
    go : (b : Bool) → P (pos n) → P (negsuc (2 ^ 64 - suc n)) → P (if b then pos n else negsuc (2 ^ 64 - suc n))
    go true p q = p
    go false p q = q

zero_plus : (z : ℤ) → pos 0 +ℤ z ≡ z
zero_plus (pos n) = ap pos (let e : 0 + n ≡ n = omega arith in e)
zero_plus (negsuc n) = let e : pos 0 +ℤ negsuc n ≡ negsuc n = omega (arith, ints) in e

-- ---- 1 byte

wraps_8 : (n : ℕ) → little_endian 1 (n % 2 ^ 8) ≡ little_endian 1 n
wraps_8 n =
    let c0 : (n % 2 ^ 8) % 256 ≡ n % 256 = omega arith in
    ap (λ (c : ℕ). c ∷ []) c0

back_8 : (n : ℕ) → number_in (little_endian 1 n) ≡ n % 2 ^ 8
back_8 n = omega arith

signed_8 : (n : ℕ) → n < 2 ^ 64 → modulo 8 (cast_signed w64 n) ≡ n % 2 ^ 8
signed_8 n h =
    by_sign (λ z. modulo 8 z ≡ n % 2 ^ 8) n h refl
    (let e : 2 ^ 8 - 1 - (2 ^ 64 - 1 - n) % 2 ^ 8 ≡ n % 2 ^ 8 = omega (arith, h) in e)

worth_8 : (s k : ℕ) → modulo 8 (worth s k) ≡ add s k % 2 ^ 8
worth_8 s k = ap (modulo 8) (signed_of s k) ∙ signed_8 ((s + k) % 2 ^ 64) (omega arith)

less_8 : (f y : ℕ) → y < 2 ^ 64 → modulo 8 (pos f -ℤ worth y 0) ≡ (f + (2 ^ 64 - y)) % 2 ^ 8
less_8 f y h =
    let same : (y + 0) % 2 ^ 64 ≡ y = omega (arith, h) in
    ap (λ z. modulo 8 (pos f -ℤ z)) (signed_of y 0 ∙ ap (cast_signed w64) same)
    ∙ by_sign (λ z. modulo 8 (pos f -ℤ z) ≡ (f + (2 ^ 64 - y)) % 2 ^ 8) y h
    (modulo_is 8 (pos f -ℤ pos y) 72057594037927936 (f + (2 ^ 64 - y)) (omega arith) (omega (arith, ints, h)))
    (modulo_is 8 (pos f -ℤ negsuc (2 ^ 64 - 1 - y)) 0 (f + (2 ^ 64 - y)) (omega arith) (omega (arith, ints, h)))

pub difference_8 : (x y k : ℕ) → y < 2 ^ 64
    → patched Sub8 (worth y 0) (patched Add8 (worth x k) (zeros 1)) ≡ little_endian 1 (add (subtract x y) k)
difference_8 x y k h =
    let added : modulo 8 (pos 0 +ℤ worth x k) ≡ add x k % 2 ^ 8 = ap (modulo 8) (zero_plus (worth x k)) ∙ worth_8 x k in
    let f = number_in (little_endian 1 (add x k)) in
    let first : patched Add8 (worth x k) (zeros 1) ≡ little_endian 1 (add x k) = ap (little_endian 1) added ∙ wraps_8 (add x k) in
    let is : f ≡ (x + k) % 2 ^ 64 % 2 ^ 8 = back_8 (add x k) in
    let sum : (f + (2 ^ 64 - y)) % 2 ^ 8 ≡ ((x + (2 ^ 64 - y)) % 2 ^ 64 + k) % 2 ^ 64 % 2 ^ 8 = omega (arith, h, is) in
    ap (patched Sub8 (worth y 0)) first ∙ ap (little_endian 1) (less_8 f y h ∙ sum) ∙ wraps_8 (add (subtract x y) k)

-- ---- 2 bytes

wraps_16 : (n : ℕ) → little_endian 2 (n % 2 ^ 16) ≡ little_endian 2 n
wraps_16 n =
    let c0 : (n % 2 ^ 16) % 256 ≡ n % 256 = omega arith in
    let c1 : (n % 2 ^ 16) / 256 % 256 ≡ n / 256 % 256 = omega arith in
    ap (λ (c : ℕ). c ∷ (n % 2 ^ 16) / 256 % 256 ∷ []) c0
    ∙ ap (λ (c : ℕ). n % 256 ∷ c ∷ []) c1

back_16 : (n : ℕ) → number_in (little_endian 2 n) ≡ n % 2 ^ 16
back_16 n = omega arith

signed_16 : (n : ℕ) → n < 2 ^ 64 → modulo 16 (cast_signed w64 n) ≡ n % 2 ^ 16
signed_16 n h =
    by_sign (λ z. modulo 16 z ≡ n % 2 ^ 16) n h refl
    (let e : 2 ^ 16 - 1 - (2 ^ 64 - 1 - n) % 2 ^ 16 ≡ n % 2 ^ 16 = omega (arith, h) in e)

worth_16 : (s k : ℕ) → modulo 16 (worth s k) ≡ add s k % 2 ^ 16
worth_16 s k = ap (modulo 16) (signed_of s k) ∙ signed_16 ((s + k) % 2 ^ 64) (omega arith)

less_16 : (f y : ℕ) → y < 2 ^ 64 → modulo 16 (pos f -ℤ worth y 0) ≡ (f + (2 ^ 64 - y)) % 2 ^ 16
less_16 f y h =
    let same : (y + 0) % 2 ^ 64 ≡ y = omega (arith, h) in
    ap (λ z. modulo 16 (pos f -ℤ z)) (signed_of y 0 ∙ ap (cast_signed w64) same)
    ∙ by_sign (λ z. modulo 16 (pos f -ℤ z) ≡ (f + (2 ^ 64 - y)) % 2 ^ 16) y h
    (modulo_is 16 (pos f -ℤ pos y) 281474976710656 (f + (2 ^ 64 - y)) (omega arith) (omega (arith, ints, h)))
    (modulo_is 16 (pos f -ℤ negsuc (2 ^ 64 - 1 - y)) 0 (f + (2 ^ 64 - y)) (omega arith) (omega (arith, ints, h)))

pub difference_16 : (x y k : ℕ) → y < 2 ^ 64
    → patched Sub16 (worth y 0) (patched Add16 (worth x k) (zeros 2)) ≡ little_endian 2 (add (subtract x y) k)
difference_16 x y k h =
    let added : modulo 16 (pos 0 +ℤ worth x k) ≡ add x k % 2 ^ 16 = ap (modulo 16) (zero_plus (worth x k)) ∙ worth_16 x k in
    let f = number_in (little_endian 2 (add x k)) in
    let first : patched Add16 (worth x k) (zeros 2) ≡ little_endian 2 (add x k) = ap (little_endian 2) added ∙ wraps_16 (add x k) in
    let is : f ≡ (x + k) % 2 ^ 64 % 2 ^ 16 = back_16 (add x k) in
    let sum : (f + (2 ^ 64 - y)) % 2 ^ 16 ≡ ((x + (2 ^ 64 - y)) % 2 ^ 64 + k) % 2 ^ 64 % 2 ^ 16 = omega (arith, h, is) in
    ap (patched Sub16 (worth y 0)) first ∙ ap (little_endian 2) (less_16 f y h ∙ sum) ∙ wraps_16 (add (subtract x y) k)

-- ---- 4 bytes

wraps_32 : (n : ℕ) → little_endian 4 (n % 2 ^ 32) ≡ little_endian 4 n
wraps_32 n =
    let c0 : (n % 2 ^ 32) % 256 ≡ n % 256 = omega arith in
    let c1 : (n % 2 ^ 32) / 256 % 256 ≡ n / 256 % 256 = omega arith in
    let c2 : (n % 2 ^ 32) / 256 / 256 % 256 ≡ n / 256 / 256 % 256 = omega arith in
    let c3 : (n % 2 ^ 32) / 256 / 256 / 256 % 256 ≡ n / 256 / 256 / 256 % 256 = omega arith in
    ap (λ (c : ℕ). c ∷ (n % 2 ^ 32) / 256 % 256 ∷ (n % 2 ^ 32) / 256 / 256 % 256 ∷ (n % 2 ^ 32) / 256 / 256 / 256 % 256 ∷ []) c0
    ∙ ap (λ (c : ℕ). n % 256 ∷ c ∷ (n % 2 ^ 32) / 256 / 256 % 256 ∷ (n % 2 ^ 32) / 256 / 256 / 256 % 256 ∷ []) c1
    ∙ ap (λ (c : ℕ). n % 256 ∷ n / 256 % 256 ∷ c ∷ (n % 2 ^ 32) / 256 / 256 / 256 % 256 ∷ []) c2
    ∙ ap (λ (c : ℕ). n % 256 ∷ n / 256 % 256 ∷ n / 256 / 256 % 256 ∷ c ∷ []) c3

back_32 : (n : ℕ) → number_in (little_endian 4 n) ≡ n % 2 ^ 32
back_32 n = omega arith

signed_32 : (n : ℕ) → n < 2 ^ 64 → modulo 32 (cast_signed w64 n) ≡ n % 2 ^ 32
signed_32 n h =
    by_sign (λ z. modulo 32 z ≡ n % 2 ^ 32) n h refl
    (let e : 2 ^ 32 - 1 - (2 ^ 64 - 1 - n) % 2 ^ 32 ≡ n % 2 ^ 32 = omega (arith, h) in e)

worth_32 : (s k : ℕ) → modulo 32 (worth s k) ≡ add s k % 2 ^ 32
worth_32 s k = ap (modulo 32) (signed_of s k) ∙ signed_32 ((s + k) % 2 ^ 64) (omega arith)

less_32 : (f y : ℕ) → y < 2 ^ 64 → modulo 32 (pos f -ℤ worth y 0) ≡ (f + (2 ^ 64 - y)) % 2 ^ 32
less_32 f y h =
    let same : (y + 0) % 2 ^ 64 ≡ y = omega (arith, h) in
    ap (λ z. modulo 32 (pos f -ℤ z)) (signed_of y 0 ∙ ap (cast_signed w64) same)
    ∙ by_sign (λ z. modulo 32 (pos f -ℤ z) ≡ (f + (2 ^ 64 - y)) % 2 ^ 32) y h
    (modulo_is 32 (pos f -ℤ pos y) 4294967296 (f + (2 ^ 64 - y)) (omega arith) (omega (arith, ints, h)))
    (modulo_is 32 (pos f -ℤ negsuc (2 ^ 64 - 1 - y)) 0 (f + (2 ^ 64 - y)) (omega arith) (omega (arith, ints, h)))

pub difference_32 : (x y k : ℕ) → y < 2 ^ 64
    → patched Sub32 (worth y 0) (patched Add32 (worth x k) (zeros 4)) ≡ little_endian 4 (add (subtract x y) k)
difference_32 x y k h =
    let added : modulo 32 (pos 0 +ℤ worth x k) ≡ add x k % 2 ^ 32 = ap (modulo 32) (zero_plus (worth x k)) ∙ worth_32 x k in
    let f = number_in (little_endian 4 (add x k)) in
    let first : patched Add32 (worth x k) (zeros 4) ≡ little_endian 4 (add x k) = ap (little_endian 4) added ∙ wraps_32 (add x k) in
    let is : f ≡ (x + k) % 2 ^ 64 % 2 ^ 32 = back_32 (add x k) in
    let sum : (f + (2 ^ 64 - y)) % 2 ^ 32 ≡ ((x + (2 ^ 64 - y)) % 2 ^ 64 + k) % 2 ^ 64 % 2 ^ 32 = omega (arith, h, is) in
    ap (patched Sub32 (worth y 0)) first ∙ ap (little_endian 4) (less_32 f y h ∙ sum) ∙ wraps_32 (add (subtract x y) k)

pub address_32 : (s k : ℕ) → patched Abs32 (worth s k) (zeros 4) ≡ little_endian 4 (add s k)
address_32 s k = ap (little_endian 4) (worth_32 s k) ∙ wraps_32 (add s k)

-- ---- 8 bytes

wraps_64 : (n : ℕ) → little_endian 8 (n % 2 ^ 64) ≡ little_endian 8 n
wraps_64 n =
    let c0 : (n % 2 ^ 64) % 256 ≡ n % 256 = omega arith in
    let c1 : (n % 2 ^ 64) / 256 % 256 ≡ n / 256 % 256 = omega arith in
    let c2 : (n % 2 ^ 64) / 256 / 256 % 256 ≡ n / 256 / 256 % 256 = omega arith in
    let c3 : (n % 2 ^ 64) / 256 / 256 / 256 % 256 ≡ n / 256 / 256 / 256 % 256 = omega arith in
    let c4 : (n % 2 ^ 64) / 256 / 256 / 256 / 256 % 256 ≡ n / 256 / 256 / 256 / 256 % 256 = omega arith in
    let c5 : (n % 2 ^ 64) / 256 / 256 / 256 / 256 / 256 % 256 ≡ n / 256 / 256 / 256 / 256 / 256 % 256 = omega arith in
    let c6 : (n % 2 ^ 64) / 256 / 256 / 256 / 256 / 256 / 256 % 256 ≡ n / 256 / 256 / 256 / 256 / 256 / 256 % 256 = omega arith in
    let c7 : (n % 2 ^ 64) / 256 / 256 / 256 / 256 / 256 / 256 / 256 % 256 ≡ n / 256 / 256 / 256 / 256 / 256 / 256 / 256 % 256 = omega arith in
    ap (λ (c : ℕ). c ∷ (n % 2 ^ 64) / 256 % 256 ∷ (n % 2 ^ 64) / 256 / 256 % 256 ∷ (n % 2 ^ 64) / 256 / 256 / 256 % 256 ∷ (n % 2 ^ 64) / 256 / 256 / 256 / 256 % 256 ∷ (n % 2 ^ 64) / 256 / 256 / 256 / 256 / 256 % 256 ∷ (n % 2 ^ 64) / 256 / 256 / 256 / 256 / 256 / 256 % 256 ∷ (n % 2 ^ 64) / 256 / 256 / 256 / 256 / 256 / 256 / 256 % 256 ∷ []) c0
    ∙ ap (λ (c : ℕ). n % 256 ∷ c ∷ (n % 2 ^ 64) / 256 / 256 % 256 ∷ (n % 2 ^ 64) / 256 / 256 / 256 % 256 ∷ (n % 2 ^ 64) / 256 / 256 / 256 / 256 % 256 ∷ (n % 2 ^ 64) / 256 / 256 / 256 / 256 / 256 % 256 ∷ (n % 2 ^ 64) / 256 / 256 / 256 / 256 / 256 / 256 % 256 ∷ (n % 2 ^ 64) / 256 / 256 / 256 / 256 / 256 / 256 / 256 % 256 ∷ []) c1
    ∙ ap (λ (c : ℕ). n % 256 ∷ n / 256 % 256 ∷ c ∷ (n % 2 ^ 64) / 256 / 256 / 256 % 256 ∷ (n % 2 ^ 64) / 256 / 256 / 256 / 256 % 256 ∷ (n % 2 ^ 64) / 256 / 256 / 256 / 256 / 256 % 256 ∷ (n % 2 ^ 64) / 256 / 256 / 256 / 256 / 256 / 256 % 256 ∷ (n % 2 ^ 64) / 256 / 256 / 256 / 256 / 256 / 256 / 256 % 256 ∷ []) c2
    ∙ ap (λ (c : ℕ). n % 256 ∷ n / 256 % 256 ∷ n / 256 / 256 % 256 ∷ c ∷ (n % 2 ^ 64) / 256 / 256 / 256 / 256 % 256 ∷ (n % 2 ^ 64) / 256 / 256 / 256 / 256 / 256 % 256 ∷ (n % 2 ^ 64) / 256 / 256 / 256 / 256 / 256 / 256 % 256 ∷ (n % 2 ^ 64) / 256 / 256 / 256 / 256 / 256 / 256 / 256 % 256 ∷ []) c3
    ∙ ap (λ (c : ℕ). n % 256 ∷ n / 256 % 256 ∷ n / 256 / 256 % 256 ∷ n / 256 / 256 / 256 % 256 ∷ c ∷ (n % 2 ^ 64) / 256 / 256 / 256 / 256 / 256 % 256 ∷ (n % 2 ^ 64) / 256 / 256 / 256 / 256 / 256 / 256 % 256 ∷ (n % 2 ^ 64) / 256 / 256 / 256 / 256 / 256 / 256 / 256 % 256 ∷ []) c4
    ∙ ap (λ (c : ℕ). n % 256 ∷ n / 256 % 256 ∷ n / 256 / 256 % 256 ∷ n / 256 / 256 / 256 % 256 ∷ n / 256 / 256 / 256 / 256 % 256 ∷ c ∷ (n % 2 ^ 64) / 256 / 256 / 256 / 256 / 256 / 256 % 256 ∷ (n % 2 ^ 64) / 256 / 256 / 256 / 256 / 256 / 256 / 256 % 256 ∷ []) c5
    ∙ ap (λ (c : ℕ). n % 256 ∷ n / 256 % 256 ∷ n / 256 / 256 % 256 ∷ n / 256 / 256 / 256 % 256 ∷ n / 256 / 256 / 256 / 256 % 256 ∷ n / 256 / 256 / 256 / 256 / 256 % 256 ∷ c ∷ (n % 2 ^ 64) / 256 / 256 / 256 / 256 / 256 / 256 / 256 % 256 ∷ []) c6
    ∙ ap (λ (c : ℕ). n % 256 ∷ n / 256 % 256 ∷ n / 256 / 256 % 256 ∷ n / 256 / 256 / 256 % 256 ∷ n / 256 / 256 / 256 / 256 % 256 ∷ n / 256 / 256 / 256 / 256 / 256 % 256 ∷ n / 256 / 256 / 256 / 256 / 256 / 256 % 256 ∷ c ∷ []) c7

back_64 : (n : ℕ) → number_in (little_endian 8 n) ≡ n % 2 ^ 64
back_64 n = omega arith

signed_64 : (n : ℕ) → n < 2 ^ 64 → modulo 64 (cast_signed w64 n) ≡ n % 2 ^ 64
signed_64 n h =
    by_sign (λ z. modulo 64 z ≡ n % 2 ^ 64) n h refl
    (let e : 2 ^ 64 - 1 - (2 ^ 64 - 1 - n) % 2 ^ 64 ≡ n % 2 ^ 64 = omega (arith, h) in e)

worth_64 : (s k : ℕ) → modulo 64 (worth s k) ≡ add s k % 2 ^ 64
worth_64 s k = ap (modulo 64) (signed_of s k) ∙ signed_64 ((s + k) % 2 ^ 64) (omega arith)

less_64 : (f y : ℕ) → y < 2 ^ 64 → modulo 64 (pos f -ℤ worth y 0) ≡ (f + (2 ^ 64 - y)) % 2 ^ 64
less_64 f y h =
    let same : (y + 0) % 2 ^ 64 ≡ y = omega (arith, h) in
    ap (λ z. modulo 64 (pos f -ℤ z)) (signed_of y 0 ∙ ap (cast_signed w64) same)
    ∙ by_sign (λ z. modulo 64 (pos f -ℤ z) ≡ (f + (2 ^ 64 - y)) % 2 ^ 64) y h
    (modulo_is 64 (pos f -ℤ pos y) 1 (f + (2 ^ 64 - y)) (omega arith) (omega (arith, ints, h)))
    (modulo_is 64 (pos f -ℤ negsuc (2 ^ 64 - 1 - y)) 0 (f + (2 ^ 64 - y)) (omega arith) (omega (arith, ints, h)))

pub difference_64 : (x y k : ℕ) → y < 2 ^ 64
    → patched Sub64 (worth y 0) (patched Add64 (worth x k) (zeros 8)) ≡ little_endian 8 (add (subtract x y) k)
difference_64 x y k h =
    let added : modulo 64 (pos 0 +ℤ worth x k) ≡ add x k % 2 ^ 64 = ap (modulo 64) (zero_plus (worth x k)) ∙ worth_64 x k in
    let f = number_in (little_endian 8 (add x k)) in
    let first : patched Add64 (worth x k) (zeros 8) ≡ little_endian 8 (add x k) = ap (little_endian 8) added ∙ wraps_64 (add x k) in
    let is : f ≡ (x + k) % 2 ^ 64 % 2 ^ 64 = back_64 (add x k) in
    let sum : (f + (2 ^ 64 - y)) % 2 ^ 64 ≡ ((x + (2 ^ 64 - y)) % 2 ^ 64 + k) % 2 ^ 64 % 2 ^ 64 = omega (arith, h, is) in
    ap (patched Sub64 (worth y 0)) first ∙ ap (little_endian 8) (less_64 f y h ∙ sum) ∙ wraps_64 (add (subtract x y) k)

pub address_64 : (s k : ℕ) → patched Abs64 (worth s k) (zeros 8) ≡ little_endian 8 (add s k)
address_64 s k = ap (little_endian 8) (worth_64 s k) ∙ wraps_64 (add s k)
