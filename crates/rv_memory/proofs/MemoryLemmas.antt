-- What rights, numbers and bytes at addresses are, range by range.

use Rattle.std.proofs.Common.{◌≡◌, ◌≢◌, ℕ, zero, suc, ◌+◌, ◌/◌, ◌%◌, ◌^◌, ◌≤◌, ◌<◌, Bool, true, false, inl, inr, List, [], ◌∷◌, ◌++◌, length, get_or, take, drop, drop-cons, refl, ap, sym, ◌∙◌, arith}
use Rattle.std.proofs.lemmas.Bool.{and_parts}
use Rattle.std.proofs.lemmas.Bool.Decides.{nat_tests}
use Rattle.std.specs.Int.{to_le_bytes, w64}
use Rattle.rv_isa_laws.specs.Memory.{Mem, Right, Read, Execute, may, bytes_at, with_byte, with_bytes, number_at, with_number}
use Rattle.rv_memory.specs.Rights.{MayLoad}
use Rattle.rv_isa_laws.specs.Bytes.{number_in, little_endian}
use Rattle.rv_isa_laws.proofs.BytesLemmas.{bytes-low-first}

-- a range from an address is that from an address that is equal modulo 2 ^ 64
pub may-wraps : (m : Mem) (a b n : ℕ) (r : Right) → a % 2 ^ 64 ≡ b % 2 ^ 64 → may m a n r ≡ may m b n r
may-wraps m a b zero r e = refl
may-wraps m a b (suc n) r e =
    let next : (a + 1) % 2 ^ 64 ≡ (b + 1) % 2 ^ 64 = omega arith in
    let rest = may-wraps m (a + 1) (b + 1) n r next in
    cc

-- the rights of a range in two parts
pub may-parts : (m : Mem) (a j k b n : ℕ) (r : Right) → b ≡ a + j → n ≡ j + k → may m a j r ≡ true → may m b k r ≡ may m a n r
may-parts m a zero k b n r e f h =
    let same : b ≡ a = omega arith in
    let long : n ≡ k = omega arith in
    cc
may-parts m a (suc j) k b n r e f h =
    let long : n ≡ suc (j + k) = omega arith in
    let both = and_parts (m.has (a % 2 ^ 64) r) (may m (a + 1) j r) h in
    let rest = may-parts m (a + 1) j k b (j + k) r (omega arith) refl both.1 in
    rw (long, both.0) rest

-- rights alone decide
pub may-same : (m n : Mem) (a k : ℕ) (r : Right) → m.has ≡ n.has → may m a k r ≡ may n a k r
may-same m n a zero r e = refl
may-same m n a (suc k) r e =
    let rest = may-same m n (a + 1) k r e in
    let here : m.has (a % 2 ^ 64) r ≡ n.has (a % 2 ^ 64) r = ap (λ (f : ℕ → Right → Bool). f (a % 2 ^ 64) r) e in
    cc

-- a number in memory is that of its bytes
pub number_at-bytes : (m : Mem) (a n : ℕ) → number_at m a n ≡ number_in (bytes_at m a n)
number_at-bytes m a zero = refl
number_at-bytes m a (suc n) = let rest = number_at-bytes m (a + 1) n in cc

pub with_number-bytes : (m : Mem) (a n v : ℕ) → with_number m a n v ≡ with_bytes m a (little_endian n v)
with_number-bytes m a zero v = refl
with_number-bytes m a (suc n) v = with_number-bytes (with_byte m (a % 2 ^ 64) (v % 256)) (a + 1) n (v / 256)

-- no right changes
pub has-with_bytes : (m : Mem) (a : ℕ) (bs : List ℕ) → (with_bytes m a bs).has ≡ m.has
has-with_bytes m a [] = refl
has-with_bytes m a (b ∷ bs) = has-with_bytes (with_byte m (a % 2 ^ 64) b) (a + 1) bs

-- one byte, and every other
byte-same : (m : Mem) (a b x : ℕ) → x ≡ a → (with_byte m a b).byte x ≡ b
byte-same m a b x e = grind (arith, nat_tests)

byte-other : (m : Mem) (a b x : ℕ) → x ≢ a → (with_byte m a b).byte x ≡ m.byte x
byte-other m a b x e = grind (arith, nat_tests)

-- outside the bytes that are put memory is as before
pub byte-below : (m : Mem) (a : ℕ) (bs : List ℕ) (x : ℕ) → a + length bs ≤ 2 ^ 64 → x < a → (with_bytes m a bs).byte x ≡ m.byte x
byte-below m a [] x fits low = refl
byte-below m a (b ∷ bs) x fits low =
    let rest = byte-below (with_byte m (a % 2 ^ 64) b) (a + 1) bs x (omega arith) (omega arith) in
    rest ∙ byte-other m (a % 2 ^ 64) b x (omega arith)

pub byte-above : (m : Mem) (a : ℕ) (bs : List ℕ) (x : ℕ) → a + length bs ≤ 2 ^ 64 → a + length bs ≤ x → (with_bytes m a bs).byte x ≡ m.byte x
byte-above m a [] x fits high = refl
byte-above m a (b ∷ bs) x fits high =
    let rest = byte-above (with_byte m (a % 2 ^ 64) b) (a + 1) bs x (omega arith) (omega arith) in
    rest ∙ byte-other m (a % 2 ^ 64) b x (omega arith)

-- inside they are what was put
pub byte-inside : (m : Mem) (a : ℕ) (bs : List ℕ) (k x : ℕ) → a + length bs ≤ 2 ^ 64 → k < length bs → x ≡ a + k →
    (with_bytes m a bs).byte x ≡ get_or bs k 0
byte-inside m a [] k x fits within e = absurd (omega arith)
byte-inside m a (b ∷ bs) zero x fits within e =
    let rest = byte-below (with_byte m (a % 2 ^ 64) b) (a + 1) bs x (omega arith) (omega arith) in
    rest ∙ byte-same m (a % 2 ^ 64) b x (omega arith)
byte-inside m a (b ∷ bs) (suc k) x fits within e =
    byte-inside (with_byte m (a % 2 ^ 64) b) (a + 1) bs k x (omega arith) (omega arith) (omega arith)

-- the first of n bytes, and the bytes one by one
pub bytes-take : (m : Mem) (a n k : ℕ) → k ≤ n → bytes_at m a k ≡ take k (bytes_at m a n)
bytes-take m a n zero low = refl
bytes-take m a zero (suc k) low = absurd (omega arith)
bytes-take m a (suc n) (suc k) low = ap (λ (bs : List ℕ). m.byte (a % 2 ^ 64) ∷ bs) (bytes-take m (a + 1) n k (omega arith))

pub length-bytes_at : (m : Mem) (a n : ℕ) → length (bytes_at m a n) ≡ n
length-bytes_at m a zero = refl
length-bytes_at m a (suc n) = ap suc (length-bytes_at m (a + 1) n)

pub byte-of-bytes : (m : Mem) (a n k : ℕ) → k < n → get_or (bytes_at m a n) k 0 ≡ m.byte ((a + k) % 2 ^ 64)
byte-of-bytes m a zero k low = absurd (omega arith)
byte-of-bytes m a (suc n) zero low = let e : a % 2 ^ 64 ≡ (a + 0) % 2 ^ 64 = omega arith in ap m.byte e
byte-of-bytes m a (suc n) (suc k) low =
    let e : (a + 1 + k) % 2 ^ 64 ≡ (a + suc k) % 2 ^ 64 = omega arith in
    byte-of-bytes m (a + 1) n k (omega arith) ∙ ap m.byte e

-- the rights of the first of n bytes
pub may-front : (m : Mem) (a n k : ℕ) (r : Right) → k ≤ n → may m a n r ≡ true → may m a k r ≡ true
may-front m a n zero r low h = refl
may-front m a zero (suc k) r low h = absurd (omega arith)
may-front m a (suc n) (suc k) r low h =
    let both = and_parts (m.has (a % 2 ^ 64) r) (may m (a + 1) n r) h in
    rw both.0 (may-front m (a + 1) n k r (omega arith) both.1)

-- where the first byte lacks the right, the range does
pub may-none : (m : Mem) (a n : ℕ) (r : Right) → 0 < n → m.has (a % 2 ^ 64) r ≡ false → may m a n r ≡ false
may-none m a zero r some h = absurd (omega arith)
may-none m a (suc n) r some h = rw h

little_endian-take : (n k v : ℕ) → k ≤ n → little_endian k v ≡ take k (little_endian n v)
little_endian-take n zero v low = refl
little_endian-take zero (suc k) v low = absurd (omega arith)
little_endian-take (suc n) (suc k) v low = ap (λ (bs : List ℕ). v % 256 ∷ bs) (little_endian-take n k (v / 256) (omega arith))

-- the low n of a number's eight bytes
pub bytes-to_le_bytes : (n v : ℕ) → n ≤ 8 → little_endian n v ≡ take n (to_le_bytes w64 v)
bytes-to_le_bytes n v low =
    let one : v ≡ v / 256 ^ 0 = grind arith in
    little_endian-take 8 n v low ∙ ap (take n) (sym (bytes-low-first 0 8 v v one))

-- the right of one of n bytes
pub may-at : (m : Mem) (a n k : ℕ) (r : Right) → k < n → may m a n r ≡ true → may m ((a + k) % 2 ^ 64) 1 r ≡ true
may-at m a zero k r low h = absurd (omega arith)
may-at m a (suc n) zero r low h =
    let both = and_parts (m.has (a % 2 ^ 64) r) (may m (a + 1) n r) h in
    let e : (a + 0) % 2 ^ 64 % 2 ^ 64 ≡ a % 2 ^ 64 = omega arith in
    rw (e, both.0)
may-at m a (suc n) (suc k) r low h =
    let both = and_parts (m.has (a % 2 ^ 64) r) (may m (a + 1) n r) h in
    let e : (a + 1 + k) % 2 ^ 64 ≡ (a + suc k) % 2 ^ 64 = omega arith in
    rw (sym e) (may-at m (a + 1) n k r (omega arith) both.1)

pub load-at : (m : Mem) (a n k b : ℕ) → k < n → b ≡ (a + k) % 2 ^ 64 → MayLoad m a n → MayLoad m b 1
load-at m a n k b low e (inl h) = inl (rw e (may-at m a n k Read low h))
load-at m a n k b low e (inr h) = inr (rw e (may-at m a n k Execute low h))

-- n and one more bytes
pub bytes-more : (m : Mem) (a n : ℕ) → bytes_at m a (n + 1) ≡ bytes_at m a n ++ (m.byte ((a + n) % 2 ^ 64) ∷ [])
bytes-more m a zero = let e : a % 2 ^ 64 ≡ (a + 0) % 2 ^ 64 = omega arith in ap (λ (x : ℕ). m.byte x ∷ []) e
bytes-more m a (suc n) =
    let e : (a + 1 + n) % 2 ^ 64 ≡ (a + suc n) % 2 ^ 64 = omega arith in
    let rest = bytes-more m (a + 1) n in
    let one : suc n + 1 ≡ suc (n + 1) = omega arith in
    rw (one, rest, e)

-- one more byte put, of those from the kth on
pub put-more : (m n : Mem) (a k b j : ℕ) (bs : List ℕ) → k < length bs → j ≡ 1 → b ≡ (a + k) % 2 ^ 64 → n ≡ with_bytes m b (take j (drop k bs)) →
    with_bytes n (a + (k + 1)) (drop (k + 1) bs) ≡ with_bytes m (a + k) (drop k bs)
put-more m n a k b j bs within one at new =
    let split : drop k bs ≡ get_or bs k 0 ∷ drop (suc k) bs = drop-cons bs k 0 within in
    let single : take 1 (get_or bs k 0 ∷ drop (suc k) bs) ≡ get_or bs k 0 ∷ [] = refl in
    let part : take j (drop k bs) ≡ get_or bs k 0 ∷ [] = rw (one, split) in
    let place : b % 2 ^ 64 ≡ (a + k) % 2 ^ 64 = omega arith in
    let first : n ≡ with_byte m ((a + k) % 2 ^ 64) (get_or bs k 0) = new ∙ ap (with_bytes m b) part ∙ ap (λ (x : ℕ). with_byte m x (get_or bs k 0)) place in
    let next : a + (k + 1) ≡ a + k + 1 = omega arith in
    let after : k + 1 ≡ suc k = omega arith in
    rw (next, after, split, first)

-- writing keeps every right
pub may-kept : (m n : Mem) (a k b : ℕ) (r : Right) (bs : List ℕ) → n ≡ with_bytes m b bs → may m a k r ≡ true → may n a k r ≡ true
may-kept m n a k b r bs new h =
    let same : n.has ≡ m.has = ap (λ (x : Mem). x.has) new ∙ has-with_bytes m b bs in
    may-same n m a k r same ∙ h

-- the same, for a byte that is put as a number
pub put-number-more : (m n : Mem) (a k b v : ℕ) (bs : List ℕ) → k < length bs → v ≡ get_or bs k 0 → v < 256 → b ≡ (a + k) % 2 ^ 64 → n ≡ with_number m b 1 v →
    with_bytes n (a + (k + 1)) (drop (k + 1) bs) ≡ with_bytes m (a + k) (drop k bs)
put-number-more m n a k b v bs within is small at new =
    let split : drop k bs ≡ get_or bs k 0 ∷ drop (suc k) bs = drop-cons bs k 0 within in
    let place : b % 2 ^ 64 ≡ (a + k) % 2 ^ 64 = omega arith in
    let low : v % 256 ≡ get_or bs k 0 = omega arith in
    let first : n ≡ with_byte m ((a + k) % 2 ^ 64) (get_or bs k 0) = new ∙ ap (λ (x : ℕ). with_byte m x (v % 256)) place ∙ ap (with_byte m ((a + k) % 2 ^ 64)) low in
    let next : a + (k + 1) ≡ a + k + 1 = omega arith in
    let after : k + 1 ≡ suc k = omega arith in
    rw (next, after, split, first)

pub may-kept-number : (m n : Mem) (a k b j v : ℕ) (r : Right) → n ≡ with_number m b j v → may m a k r ≡ true → may n a k r ≡ true
may-kept-number m n a k b j v r new h = may-kept m n a k b r (little_endian j v) (new ∙ with_number-bytes m b j v) h

-- a byte that is loaded
pub loaded-byte : (m : Mem) (b v : ℕ) → b < 2 ^ 64 → v ≡ number_at m b 1 → v ≡ m.byte b
loaded-byte m b v fits is =
    let wraps : b % 2 ^ 64 ≡ b = omega arith in
    let one : number_at m b 1 ≡ m.byte (b % 2 ^ 64) = omega arith in
    is ∙ one ∙ ap m.byte wraps

-- a number is put by its low bytes
pub put-low : (m n : Mem) (a k v : ℕ) (digits : List ℕ) → k ≤ 8 → digits ≡ to_le_bytes w64 v → n ≡ with_bytes m a (take k digits) → n ≡ with_number m a k v
put-low m n a k v digits small is new =
    let low : take k digits ≡ little_endian k v = ap (take k) is ∙ sym (bytes-to_le_bytes k v small) in
    new ∙ ap (with_bytes m a) low ∙ sym (with_number-bytes m a k v)
