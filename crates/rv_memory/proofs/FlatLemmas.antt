-- What a memory that segments make has at an address, in a range, and after a write.

use Rattle.std.proofs.Common.{◌≡◌, ℕ, zero, suc, ◌+◌, ◌-◌, ◌%◌, ◌^◌, ◌≤◌, ◌<◌, Bool, true, false, cond, ◌⊎◌, inl, inr, List, [], ◌∷◌, ◌++◌, Option, Some, length, get_or, set, slice_get, take, drop, drop-cons, length-append, length-drop, map, refl, ap, sym, subst, ◌∙◌, arith}
use Rattle.std.proofs.Math.ListN.{get_or-append}
use Rattle.std.proofs.lemmas.Bool.{cases_order}
use Rattle.std.proofs.lemmas.Bool.Decides.{nat_tests}
use Rattle.std.proofs.lemmas.Grind.{common_steps}
use Rattle.std.proofs.lemmas.List.{get_or-take, get_or-drop, get_or-append-add, map-set, get_or-map, length-map}
use Rattle.std.proofs.Math.Path.{fun_ext}
use Rattle.std.proofs.Math.Seq.{take-length}
use Rattle.rv_isa_laws.specs.Memory.{Mem, Right, may, bytes_at, with_bytes}
use Rattle.rv_image_laws.specs.Segment.{Segment}
use Rattle.rv_image.specs.SegmentView.{segment_of}
use Rattle.rv_image.specs.declared.segment.Segment.{Segment as DeclaredSegment}
use Rattle.std.proofs.lemmas.Option.{slice_get-get_or}
use Rattle.rv_memory.specs.Flat.{memory_of, AreDisjoint, with_part, no_segment}
use Rattle.rv_image_laws.specs.Memory.{lies_in, segment_at, gives_right, byte_in, right_in}
use Rattle.rv_memory.proofs.MemoryLemmas.{byte-below, byte-above, byte-inside, has-with_bytes}

-- an address that a segment holds lies in its range, and one in its range is held
pub holds-range : (s : Segment) (x : ℕ) → lies_in s x ≡ true → (s.address ≤ x) × (x < s.address + length s.bytes)
holds-range s x h = grind (arith, nat_tests)

pub range-holds : (s : Segment) (x : ℕ) → s.address ≤ x → x < s.address + length s.bytes → lies_in s x ≡ true
range-holds s x low high = grind (arith, nat_tests)

-- the rest of segments that lie apart lies apart
pub disjoint-rest : (s : Segment) (ss : List Segment) → AreDisjoint (s ∷ ss) → AreDisjoint ss
disjoint-rest s ss apart i j x t u at_i at_j t_holds u_holds =
    let e : suc i ≡ suc j = apart (suc i) (suc j) x t u at_i at_j t_holds u_holds in
    omega arith

-- the segment of an address is the one that holds it
first-held : (b : Bool) (t s : Segment) (x : ℕ) (o : Option Segment) → lies_in t x ≡ b → (o ≡ Some s → lies_in s x ≡ true) →
    cond b (Some t) o ≡ Some s → lies_in s x ≡ true
first-held true t s x o h rest e = let same : t ≡ s = cc in subst (λ (u : Segment). lies_in u x ≡ true) same h
first-held false t s x o h rest e = rest e

pub segment-held : (ss : List Segment) (x : ℕ) (s : Segment) → segment_at ss x ≡ Some s → lies_in s x ≡ true
segment-held [] x s e = cc
segment-held (t ∷ ss) x s e = first-held (lies_in t x) t s x (segment_at ss x) refl (segment-held ss x s) e

later : {A : Type 0} (b : Bool) (p o q : A) → (b ≡ true → ⊥) → o ≡ q → cond b p o ≡ q
later true p o q never e = absurd (never refl)
later false p o q never e = e

pub held-segment : (ss : List Segment) (i x : ℕ) (s : Segment) → AreDisjoint ss → slice_get ss i ≡ Some s → lies_in s x ≡ true →
    segment_at ss x ≡ Some s
held-segment [] i x s apart at held = cc
held-segment (t ∷ ss) zero x s apart at held =
    let same : s ≡ t = cc in
    let h : lies_in t x ≡ true = subst (λ (u : Segment). lies_in u x ≡ true) same held in
    rw h at
held-segment (t ∷ ss) (suc i) x s apart at held =
    let rest = held-segment ss i x s (disjoint-rest t ss apart) at held in
    later (lies_in t x) (Some t) (segment_at ss x) (Some s) (λ h. let e : 0 ≡ suc i = apart 0 (suc i) x t s refl at h held in omega arith) rest

pub holds-same : (s t : Segment) (x : ℕ) → t.address ≡ s.address → length t.bytes ≡ length s.bytes → lies_in t x ≡ lies_in s x
holds-same s t x same long = grind (arith, nat_tests)

-- tests that are never both true have no order
pub swapped : {A : Type 0} (a b : Bool) (p q o : A) → (a ≡ true → b ≡ true → ⊥) → cond a p (cond b q o) ≡ cond b q (cond a p o)
swapped true true p q o never = absurd (never refl refl)
swapped true false p q o never = refl
swapped false true p q o never = refl
swapped false false p q o never = refl

twice : {A : Type 0} (b : Bool) (p q o : A) → cond b p o ≡ cond b p (cond b q o)
twice true p q o = refl
twice false p q o = refl

-- with a segment replaced by one in its range
pub segment-set : (ss : List Segment) (i x : ℕ) (s t : Segment) → AreDisjoint ss → slice_get ss i ≡ Some s →
    t.address ≡ s.address → length t.bytes ≡ length s.bytes →
    segment_at (set ss i t) x ≡ cond (lies_in s x) (Some t) (segment_at ss x)
segment-set [] i x s t apart at same long = cc
segment-set (u ∷ ss) zero x s t apart at same long =
    let e : lies_in t x ≡ lies_in s x = holds-same s t x same long in
    let is : u ≡ s = cc in
    let f : lies_in u x ≡ lies_in s x = ap (λ (v : Segment). lies_in v x) is in
    rw (e, f) (twice (lies_in s x) (Some t) (Some u) (segment_at ss x))
segment-set (u ∷ ss) (suc i) x s t apart at same long =
    let rest = segment-set ss i x s t (disjoint-rest u ss apart) at same long in
    let apart_here : lies_in u x ≡ true → lies_in s x ≡ true → ⊥ = λ h k. (let e : 0 ≡ suc i = apart 0 (suc i) x u s refl at h k in omega arith) in
    ap (cond (lies_in u x) (Some u)) rest ∙ swapped (lies_in u x) (lies_in s x) (Some u) (Some t) (segment_at ss x) apart_here

-- a part of a list begins with its first element
take-drop : (bs : List ℕ) (k n : ℕ) → k < length bs → take (suc n) (drop k bs) ≡ get_or bs k 0 ∷ take n (drop (suc k) bs)
take-drop bs k n within = rw (drop-cons bs k 0 within)

-- the bytes of a range in a segment are that part of its bytes
pub bytes-within : (ss : List Segment) (i : ℕ) (s : Segment) (a k n : ℕ) → AreDisjoint ss → slice_get ss i ≡ Some s →
    s.address + length s.bytes ≤ 2 ^ 64 → a ≡ s.address + k → k + n ≤ length s.bytes →
    bytes_at (memory_of ss) a n ≡ take n (drop k s.bytes)
bytes-within ss i s a k zero apart at fits e within = refl
bytes-within ss i s a k (suc n) apart at fits e within =
    let held : lies_in s a ≡ true = range-holds s a (omega arith) (omega arith) in
    let here : segment_at ss a ≡ Some s = held-segment ss i a s apart at held in
    let wraps : a % 2 ^ 64 ≡ a = omega arith in
    let place : a - s.address ≡ k = omega arith in
    let first : (memory_of ss).byte (a % 2 ^ 64) ≡ get_or s.bytes k 0 = rw (wraps, here, place) in
    let rest = bytes-within ss i s (a + 1) (suc k) n apart at fits (omega arith) (omega arith) in
    rw (first, rest, take-drop s.bytes k n (omega arith))

-- a range in a segment has the rights of its flags
pub may-within : (ss : List Segment) (i : ℕ) (s : Segment) (a n : ℕ) (r : Right) → AreDisjoint ss → slice_get ss i ≡ Some s →
    s.address + length s.bytes ≤ 2 ^ 64 → s.address ≤ a → a + n ≤ s.address + length s.bytes → gives_right s.flags r ≡ true →
    may (memory_of ss) a n r ≡ true
may-within ss i s a zero r apart at fits low high right = refl
may-within ss i s a (suc n) r apart at fits low high right =
    let held : lies_in s a ≡ true = range-holds s a low (omega arith) in
    let here : segment_at ss a ≡ Some s = held-segment ss i a s apart at held in
    let wraps : a % 2 ^ 64 ≡ a = omega arith in
    let first : (memory_of ss).has (a % 2 ^ 64) r ≡ true = rw (wraps, here) right in
    let rest = may-within ss i s (a + 1) n r apart at fits (omega arith) (omega arith) right in
    rw (first, rest)

-- a list with some of its elements replaced, element by element
spliced-below : (xs bs : List ℕ) (k j : ℕ) → k + length bs ≤ length xs → j < k →
    get_or (take k xs ++ (bs ++ drop (k + length bs) xs)) j 0 ≡ get_or xs j 0
spliced-below xs bs k j fits low =
    let long : length (take k xs) ≡ k = grind (arith, common_steps) in
    let remaining : j < length (take k xs) = omega arith in
    get_or-append (take k xs) (bs ++ drop (k + length bs) xs) 0 j remaining ∙ get_or-take k xs j 0 low

spliced-inside : (xs bs : List ℕ) (k j : ℕ) → k + length bs ≤ length xs → j < length bs →
    get_or (take k xs ++ (bs ++ drop (k + length bs) xs)) (k + j) 0 ≡ get_or bs j 0
spliced-inside xs bs k j fits within =
    let long : length (take k xs) ≡ k = grind (arith, common_steps) in
    let place : length (take k xs) + j ≡ k + j = omega arith in
    let e = get_or-append-add (take k xs) (bs ++ drop (k + length bs) xs) j 0 in
    let f : get_or (take k xs ++ (bs ++ drop (k + length bs) xs)) (k + j) 0 ≡ get_or (bs ++ drop (k + length bs) xs) j 0 = subst (λ (n : ℕ). get_or (take k xs ++ (bs ++ drop (k + length bs) xs)) n 0 ≡ get_or (bs ++ drop (k + length bs) xs) j 0) place e in
    f ∙ get_or-append bs (drop (k + length bs) xs) 0 j within

spliced-above : (xs bs : List ℕ) (k j : ℕ) → k + length bs ≤ length xs →
    get_or (take k xs ++ (bs ++ drop (k + length bs) xs)) (k + length bs + j) 0 ≡ get_or xs (k + length bs + j) 0
spliced-above xs bs k j fits =
    let long : length (take k xs) ≡ k = grind (arith, common_steps) in
    let place : length (take k xs) + (length bs + j) ≡ k + length bs + j = omega arith in
    let e = get_or-append-add (take k xs) (bs ++ drop (k + length bs) xs) (length bs + j) 0 in
    let f : get_or (take k xs ++ (bs ++ drop (k + length bs) xs)) (k + length bs + j) 0 ≡ get_or (bs ++ drop (k + length bs) xs) (length bs + j) 0 = subst (λ (n : ℕ). get_or (take k xs ++ (bs ++ drop (k + length bs) xs)) n 0 ≡ get_or (bs ++ drop (k + length bs) xs) (length bs + j) 0) place e in
    f ∙ get_or-append-add bs (drop (k + length bs) xs) j 0 ∙ get_or-drop (k + length bs) xs j 0

pub length-with_part : (s : Segment) (k : ℕ) (bs : List ℕ) → k + length bs ≤ length s.bytes → length (with_part s k bs).bytes ≡ length s.bytes
length-with_part s k bs fits = simp (length-append, length-drop) (let long : length (take k s.bytes) ≡ k = grind (arith, common_steps) in omega arith)

-- what an address is to n addresses from a on
-- before a range, in it, or after it
pub place : (x a n : ℕ) → (x < a) ⊎ (((a ≤ x) × (x < a + n)) ⊎ (a + n ≤ x))
place x a n = grind (arith, cases_order x a, cases_order x (a + n))

-- the byte of an address in the segment, before and after, is that of memory
inside : (ss : List Segment) (s : Segment) (a k : ℕ) (bs : List ℕ) (x : ℕ) → s.address + length s.bytes ≤ 2 ^ 64 → a ≡ s.address + k →
    k + length bs ≤ length s.bytes → segment_at ss x ≡ Some s → lies_in s x ≡ true →
    (x < a) ⊎ (((a ≤ x) × (x < a + length bs)) ⊎ (a + length bs ≤ x)) →
    get_or (with_part s k bs).bytes (x - s.address) 0 ≡ (with_bytes (memory_of ss) a bs).byte x
inside ss s a k bs x fits e within at held (inl below) =
    let range = holds-range s x held in
    let old : (memory_of ss).byte x ≡ get_or s.bytes (x - s.address) 0 = rw at in
    let new = spliced-below s.bytes bs k (x - s.address) within (omega arith) in
    let put = byte-below (memory_of ss) a bs x (omega arith) below in
    new ∙ sym old ∙ sym put
inside ss s a k bs x fits e within at held (inr (inl here)) =
    let range = holds-range s x held in
    let far : k + (x - a) ≡ x - s.address = omega arith in
    let new = spliced-inside s.bytes bs k (x - a) within (omega arith) in
    let put = byte-inside (memory_of ss) a bs (x - a) x (omega arith) (omega arith) (omega arith) in
    subst (λ (n : ℕ). get_or (with_part s k bs).bytes n 0 ≡ get_or bs (x - a) 0) far new ∙ sym put
inside ss s a k bs x fits e within at held (inr (inr above)) =
    let range = holds-range s x held in
    let old : (memory_of ss).byte x ≡ get_or s.bytes (x - s.address) 0 = rw at in
    let far : k + length bs + (x - (a + length bs)) ≡ x - s.address = omega arith in
    let new = spliced-above s.bytes bs k (x - (a + length bs)) within in
    let put = byte-above (memory_of ss) a bs x (omega arith) above in
    subst (λ (n : ℕ). get_or (with_part s k bs).bytes n 0 ≡ get_or s.bytes n 0) far new ∙ sym old ∙ sym put

-- the byte of any other address is that of memory
outside : (ss : List Segment) (s : Segment) (a k : ℕ) (bs : List ℕ) (x : ℕ) → s.address + length s.bytes ≤ 2 ^ 64 → a ≡ s.address + k →
    k + length bs ≤ length s.bytes → lies_in s x ≡ false →
    (x < a) ⊎ (((a ≤ x) × (x < a + length bs)) ⊎ (a + length bs ≤ x)) →
    (memory_of ss).byte x ≡ (with_bytes (memory_of ss) a bs).byte x
outside ss s a k bs x fits e within away (inl below) = sym (byte-below (memory_of ss) a bs x (omega arith) below)
outside ss s a k bs x fits e within away (inr (inl here)) =
    let held : lies_in s x ≡ true = range-holds s x (omega arith) (omega arith) in
    cc
outside ss s a k bs x fits e within away (inr (inr above)) = sym (byte-above (memory_of ss) a bs x (omega arith) above)

at-byte : (b : Bool) (ss : List Segment) (i : ℕ) (s : Segment) (a k : ℕ) (bs : List ℕ) (x : ℕ) → AreDisjoint ss → slice_get ss i ≡ Some s →
    s.address + length s.bytes ≤ 2 ^ 64 → a ≡ s.address + k → k + length bs ≤ length s.bytes → lies_in s x ≡ b →
    byte_in (cond b (Some (with_part s k bs)) (segment_at ss x)) x ≡ (with_bytes (memory_of ss) a bs).byte x
at-byte true ss i s a k bs x apart at fits e within held =
    inside ss s a k bs x fits e within (held-segment ss i x s apart at held) held (place x a (length bs))
at-byte false ss i s a k bs x apart at fits e within away =
    outside ss s a k bs x fits e within away (place x a (length bs))

at-right : (b : Bool) (ss : List Segment) (i : ℕ) (s : Segment) (k : ℕ) (bs : List ℕ) (x : ℕ) (r : Right) → AreDisjoint ss → slice_get ss i ≡ Some s →
    lies_in s x ≡ b → right_in (cond b (Some (with_part s k bs)) (segment_at ss x)) r ≡ right_in (segment_at ss x) r
at-right true ss i s k bs x r apart at held = let e = held-segment ss i x s apart at held in rw e
at-right false ss i s k bs x r apart at held = refl

abbrev made : (ℕ → ℕ) → (ℕ → Right → Bool) → Mem
made b h = record { byte = b; has = h }

pub same-memory : (m n : Mem) → m.byte ≡ n.byte → m.has ≡ n.has → m ≡ n
same-memory m n e f = ap (λ (b : ℕ → ℕ). made b m.has) e ∙ ap (λ (h : ℕ → Right → Bool). made n.byte h) f

-- bytes put into a segment are put into memory
pub with-part-is : (ss : List Segment) (i : ℕ) (s : Segment) (a k : ℕ) (bs : List ℕ) → AreDisjoint ss → slice_get ss i ≡ Some s →
    s.address + length s.bytes ≤ 2 ^ 64 → a ≡ s.address + k → k + length bs ≤ length s.bytes →
    memory_of (set ss i (with_part s k bs)) ≡ with_bytes (memory_of ss) a bs
with-part-is ss i s a k bs apart at fits e within =
    let t = with_part s k bs in
    let found : (x : ℕ) → segment_at (set ss i t) x ≡ cond (lies_in s x) (Some t) (segment_at ss x) =
    λ x. segment-set ss i x s t apart at refl (length-with_part s k bs within) in
    let byte : (x : ℕ) → byte_in (segment_at (set ss i t) x) x ≡ (with_bytes (memory_of ss) a bs).byte x =
    λ x. ap (λ (o : Option Segment). byte_in o x) (found x) ∙ at-byte (lies_in s x) ss i s a k bs x apart at fits e within refl in
    let right : (x : ℕ) (r : Right) → right_in (segment_at (set ss i t) x) r ≡ right_in (segment_at ss x) r =
    λ x r. ap (λ (o : Option Segment). right_in o r) (found x) ∙ at-right (lies_in s x) ss i s k bs x r apart at refl in
    let bytes : (memory_of (set ss i t)).byte ≡ (with_bytes (memory_of ss) a bs).byte = fun_ext byte in
    let rights : (memory_of (set ss i t)).has ≡ (memory_of ss).has = fun_ext (λ (x : ℕ). fun_ext (right x)) in
    same-memory (memory_of (set ss i t)) (with_bytes (memory_of ss) a bs) bytes (rights ∙ sym (has-with_bytes (memory_of ss) a bs))

-- the element at i, as the segments' plain values have it
pub element : (xs : List DeclaredSegment) (i : ℕ) (s : DeclaredSegment) → i < length xs → s ≡ get_or xs i s →
    slice_get (map segment_of xs) i ≡ Some (segment_of s)
element xs i s within is =
    let far : i < length (map segment_of xs) = simp length-map within in
    let e : slice_get (map segment_of xs) i ≡ Some (get_or (map segment_of xs) i (segment_of s)) = slice_get-get_or (map segment_of xs) i (segment_of s) far in
    let f : get_or (map segment_of xs) i (segment_of s) ≡ segment_of (get_or xs i s) = get_or-map segment_of xs i s (segment_of s) within in
    cc

-- what is known of the segment at index i, where an address lies in it
pub record Placed (segments : List Segment) (i x : ℕ) (s : Segment) : Type 0 where
  pub at : slice_get segments i ≡ Some s
  pub here : segment_at segments x ≡ Some s
  pub low : s.address ≤ x
  pub high : x < s.address + length s.bytes

pub placed : (xs : List DeclaredSegment) (i x : ℕ) (s : DeclaredSegment) → i < length xs → s ≡ get_or xs i s →
    segment_at (map segment_of xs) x ≡ slice_get (map segment_of xs) i → Placed (map segment_of xs) i x (segment_of s)
placed xs i x s within is found =
    let at = element xs i s within is in
    let here : segment_at (map segment_of xs) x ≡ Some (segment_of s) = cc in
    let range = holds-range (segment_of s) x (segment-held (map segment_of xs) x (segment_of s) here) in
    record { at = at; here = here; low = range.0; high = range.1 }

-- the bytes from an address to its segment's end
pub bytes-rest : (ss : List Segment) (i : ℕ) (s : Segment) (x : ℕ) → AreDisjoint ss → Placed ss i x s → s.address + length s.bytes ≤ 2 ^ 64 →
    bytes_at (memory_of ss) x (length (drop (x - s.address) s.bytes)) ≡ drop (x - s.address) s.bytes
bytes-rest ss i s x apart p fits =
    let low : s.address ≤ x = p.low in
    let high : x < s.address + length s.bytes = p.high in
    let k = x - s.address in
    let long : length (drop k s.bytes) ≡ length s.bytes - k = length-drop k s.bytes in
    let e = bytes-within ss i s x k (length (drop k s.bytes)) apart p.at fits (omega arith) (omega arith) in
    e ∙ take-length (drop k s.bytes)

-- segments of which one is replaced by one in its range lie apart
set-holder : (ss : List Segment) (i j x : ℕ) (s t u : Segment) → slice_get ss i ≡ Some s → t.address ≡ s.address → length t.bytes ≡ length s.bytes →
    slice_get (set ss i t) j ≡ Some u → lies_in u x ≡ true → (v : Segment) × ((slice_get ss j ≡ Some v) × (lies_in v x ≡ true))
set-holder [] i j x s t u at same long e held = absurd (cc)
set-holder (w ∷ ss) zero zero x s t u at same long e held =
    let is : u ≡ t = cc in
    let was : w ≡ s = cc in
    let h : lies_in t x ≡ true = subst (λ (y : Segment). lies_in y x ≡ true) is held in
    (s, (at, sym (holds-same s t x same long) ∙ h))
set-holder (w ∷ ss) zero (suc j) x s t u at same long e held = (u, (e, held))
set-holder (w ∷ ss) (suc i) zero x s t u at same long e held = (u, (e, held))
set-holder (w ∷ ss) (suc i) (suc j) x s t u at same long e held = set-holder ss i j x s t u at same long e held

pub disjoint-set : (ss : List Segment) (i : ℕ) (s t : Segment) → AreDisjoint ss → slice_get ss i ≡ Some s → t.address ≡ s.address →
    length t.bytes ≡ length s.bytes → AreDisjoint (set ss i t)
disjoint-set ss i s t apart at same long j k x u v at_j at_k held_u held_v =
    let a = set-holder ss i j x s t u at same long at_j held_u in
    let b = set-holder ss i k x s t v at same long at_k held_v in
    apart j k x a.0 b.0 a.1.0 b.1.0 a.1.1 b.1.1

pub element-or : (xs : List DeclaredSegment) (i : ℕ) (s : DeclaredSegment) → i < length xs → s ≡ get_or xs i s →
    get_or (map segment_of xs) i no_segment ≡ segment_of s
element-or xs i s within is = get_or-map segment_of xs i s no_segment within ∙ ap segment_of (sym is)

-- the plain values of segments, one of which has a part of its bytes replaced
pub segments-written : (xs : List DeclaredSegment) (i k : ℕ) (s t : DeclaredSegment) (bs : List ℕ) → i < length xs → s ≡ get_or xs i s →
    segment_of t ≡ with_part (segment_of s) k bs →
    map segment_of (set xs i t) ≡ set (map segment_of xs) i (with_part (get_or (map segment_of xs) i no_segment) k bs)
segments-written xs i k s t bs within is new =
    map-set segment_of xs i t ∙ ap (set (map segment_of xs) i) (new ∙ ap (λ (u : Segment). with_part u k bs) (sym (element-or xs i s within is)))

pub disjoint-written : (xs : List DeclaredSegment) (i k : ℕ) (s t : DeclaredSegment) (bs : List ℕ) → AreDisjoint (map segment_of xs) → i < length xs →
    s ≡ get_or xs i s → k + length bs ≤ length s.bytes.items → segment_of t ≡ with_part (segment_of s) k bs → AreDisjoint (map segment_of (set xs i t))
disjoint-written xs i k s t bs apart within is fits new =
    let at = element xs i s within is in
    let long : length (segment_of t).bytes ≡ length (segment_of s).bytes = ap (λ (u : Segment). length u.bytes) new ∙ length-with_part (segment_of s) k bs fits in
    let same : (segment_of t).address ≡ (segment_of s).address = ap (λ (u : Segment). u.address) new in
    rw map-set (disjoint-set (map segment_of xs) i (segment_of s) (segment_of t) apart at same long)
