-- The part of the stack that is not made yet: what a memory has with it, and that it has the same when a segment gets it.

use Rattle.std.proofs.Common.{◌≡◌, ℕ, zero, suc, ◌+◌, ◌-◌, ◌%◌, ◌^◌, ◌≤◌, ◌<◌, Bool, true, false, ◌||◌, cond, inl, inr, List, [], ◌∷◌, ◌++◌, Option, Some, None, length, length-append, length-set, replicate, get_or, set, slice_get, map, IfSome, MatchBool, refl, ap, sym, subst, ◌∙◌, arith}
use Rattle.std.proofs.lemmas.Bool.{and_parts, cases_eq, cases_lt, and_from}
use Rattle.std.proofs.lemmas.Bool.Decides.{nat_tests}
use Rattle.std.proofs.lemmas.List.{map-set, length-replicate, get_or-set_same, get_or-set_other, get_or-append-add}
use Rattle.std.proofs.lemmas.Option.{slice_get-get_or}
use Rattle.std.proofs.Math.Path.{fun_ext}
use Rattle.rv_isa_laws.specs.Memory.{Mem, Right, Read, Write, Execute, may, number_at, with_byte, with_bytes}
use Rattle.rv_isa_laws.specs.Platform.{stack_start}
use Rattle.rv_image_laws.specs.Segment.{Segment}
use Rattle.rv_image.specs.SegmentView.{segment_of}
use Rattle.rv_image.specs.declared.segment.Segment.{Segment as DeclaredSegment}
use Rattle.rv_image_laws.specs.Memory.{lies_in, segment_at, byte_in, right_in, gives_right}
use Rattle.rv_memory.specs.Flat.{memory_of, AreDisjoint, no_segment}
use Rattle.rv_memory.specs.Pages.{AreOrdered, AreBehind, AreListed}
use Rattle.rv_memory.specs.Unmade.{lies_unmade, in_unmade, with_unmade, IsFree, IsUnmade, IsGap, deep, deeper}
use Rattle.rv_memory.specs.declared.page.Page.{Page}
use Rattle.rv_memory.proofs.NewLemmas.{or-true}
use Rattle.rv_memory.proofs.FlatLemmas.{element-or, holds-range, range-holds, held-segment, disjoint-rest, same-memory}

pub unmade-range : (base x : ℕ) → lies_unmade base x ≡ true → (stack_start ≤ x) × (x < base)
unmade-range base x h = grind (arith, nat_tests)

range-unmade : (base x : ℕ) → stack_start ≤ x → x < base → lies_unmade base x ≡ true
range-unmade base x low high = grind (arith, nat_tests)

above-unmade : (base x : ℕ) → base ≤ x → lies_unmade base x ≡ false
above-unmade base x high = grind (arith, nat_tests)

-- nothing is below the stack's start
pub all-made : (x : ℕ) → lies_unmade stack_start x ≡ false
all-made x = grind (arith, nat_tests)

no-right : (base x : ℕ) (r : Right) → lies_unmade base x ≡ false → in_unmade base x r ≡ false
no-right base x Read e = e
no-right base x Write e = e
no-right base x Execute e = refl

-- elsewhere a memory has its own rights
pub has-made : (m : Mem) (base x : ℕ) (r : Right) → lies_unmade base x ≡ false → (with_unmade base m).has x r ≡ m.has x r
has-made m base x r e = ap (λ (b : Bool). b || m.has x r) (no-right base x r e)

pub none-unmade : (m : Mem) → with_unmade stack_start m ≡ m
none-unmade m = same-memory (with_unmade stack_start m) m refl (fun_ext (λ (x : ℕ). fun_ext (λ (r : Right). has-made m stack_start x r (all-made x))))

-- what may be done without it may be done with it
pub may-unmade : (m : Mem) (base a n : ℕ) (r : Right) → may m a n r ≡ true → may (with_unmade base m) a n r ≡ true
may-unmade m base a zero r h = refl
may-unmade m base a (suc n) r h =
    let both = and_parts (m.has (a % 2 ^ 64) r) (may m (a + 1) n r) h in
    let here : (in_unmade base (a % 2 ^ 64) r || m.has (a % 2 ^ 64) r) ≡ true =
    ap (λ (b : Bool). in_unmade base (a % 2 ^ 64) r || b) both.0 ∙ or-true (in_unmade base (a % 2 ^ 64) r) in
    and_from _ _ here (may-unmade m base (a + 1) n r both.1)

pub right-lifts : {A : Type 0} (o : Option A) (m : Mem) (base a n : ℕ) (r : Right) → IfSome o (λ _. may m a n r ≡ true) → IfSome o (λ _. may (with_unmade base m) a n r ≡ true)
right-lifts None m base a n r h = h
right-lifts (Some x) m base a n r h = may-unmade m base a n r h

pub put-unmade : (m : Mem) (base a : ℕ) (bs : List ℕ) → with_unmade base (with_bytes m a bs) ≡ with_bytes (with_unmade base m) a bs
put-unmade m base a [] = refl
put-unmade m base a (b ∷ bs) = put-unmade (with_byte m (a % 2 ^ 64) b) base (a + 1) bs

-- all of it may be read and written
pub run-unmade : (m : Mem) (base a n : ℕ) (r : Right) → ((x : ℕ) → lies_unmade base x ≡ true → in_unmade base x r ≡ true) →
    lies_unmade base a ≡ true → a + n ≤ base → base ≤ 2 ^ 64 → may (with_unmade base m) a n r ≡ true
run-unmade m base a zero r gives at high small = refl
run-unmade m base a (suc zero) r gives at high small =
    let range = unmade-range base a at in
    let wraps : a % 2 ^ 64 ≡ a = omega (arith, range.1, small) in
    let there : lies_unmade base (a % 2 ^ 64) ≡ true = subst (λ (x : ℕ). lies_unmade base x ≡ true) (sym wraps) at in
    let here : (in_unmade base (a % 2 ^ 64) r || m.has (a % 2 ^ 64) r) ≡ true = ap (λ (b : Bool). b || m.has (a % 2 ^ 64) r) (gives _ there) in
    and_from _ true here refl
run-unmade m base a (suc (suc n)) r gives at high small =
    let range = unmade-range base a at in
    let wraps : a % 2 ^ 64 ≡ a = omega (arith, range.1, small) in
    let there : lies_unmade base (a % 2 ^ 64) ≡ true = subst (λ (x : ℕ). lies_unmade base x ≡ true) (sym wraps) at in
    let here : (in_unmade base (a % 2 ^ 64) r || m.has (a % 2 ^ 64) r) ≡ true = ap (λ (b : Bool). b || m.has (a % 2 ^ 64) r) (gives _ there) in
    let next : lies_unmade base (a + 1) ≡ true = range-unmade base (a + 1) (omega (arith, range.0)) (omega (arith, high)) in
    and_from _ _ here (run-unmade m base (a + 1) (suc n) r gives next (omega (arith, high)) small)

-- each of its bytes is 0, and so is a number of them
pub byte-unmade : (ss : List Segment) (base a n : ℕ) → IsFree ss base → stack_start ≤ a → a + n ≤ base → base ≤ 2 ^ 64 →
    (k : ℕ) → k < n → (memory_of ss).byte ((a + k) % 2 ^ 64) ≡ 0
byte-unmade ss base a n free low high small k within =
    let x : ℕ = (a + k) % 2 ^ 64 in
    let wraps : x ≡ a + k = omega (arith, high, small, within) in
    ap (λ (o : Option Segment). byte_in o x) (free x (omega (arith, wraps, low)) (omega (arith, wraps, high, within)))

pub zeros-number : (m : Mem) (a n : ℕ) → ((k : ℕ) → k < n → m.byte ((a + k) % 2 ^ 64) ≡ 0) → number_at m a n ≡ 0
zeros-number m a zero zeros = refl
zeros-number m a (suc n) zeros =
    let place : a % 2 ^ 64 ≡ (a + 0) % 2 ^ 64 = omega arith in
    let here : m.byte (a % 2 ^ 64) ≡ 0 = ap m.byte place ∙ zeros 0 (omega arith) in
    let next : (k : ℕ) → (a + 1 + k) % 2 ^ 64 ≡ (a + suc k) % 2 ^ 64 = λ k. omega arith in
    let rest = zeros-number m (a + 1) n (λ k low. ap m.byte (next k) ∙ zeros (suc k) (omega (arith, low))) in
    omega (arith, here, rest)

-- where no segment lies there is no right but these
pub free-right : (ss : List Segment) (base x : ℕ) (r : Right) → lies_unmade base x ≡ false → segment_at ss x ≡ None →
    (with_unmade base (memory_of ss)).has x r ≡ false
free-right ss base x r made none = has-made (memory_of ss) base x r made ∙ ap (λ (o : Option Segment). right_in o r) none

-- bytes put, with this part as without
pub put-lifts : (b : Bool) (ss ts : List Segment) (base a : ℕ) (bs : List ℕ) →
    MatchBool b ((may (memory_of ss) a (length bs) Write ≡ true) × (memory_of ts ≡ with_bytes (memory_of ss) a bs)) (ts ≡ ss) →
    MatchBool b ((may (with_unmade base (memory_of ss)) a (length bs) Write ≡ true) × (with_unmade base (memory_of ts) ≡ with_bytes (with_unmade base (memory_of ss)) a bs))
    (with_unmade base (memory_of ts) ≡ with_unmade base (memory_of ss))
put-lifts true ss ts base a bs put =
    (may-unmade (memory_of ss) base a (length bs) Write put.0, ap (λ (m : Mem). with_unmade base m) put.1 ∙ put-unmade (memory_of ss) base a bs)
put-lifts false ss ts base a bs same = ap (λ (l : List Segment). with_unmade base (memory_of l)) same

pub set-lifts : (b : Bool) (m n : Mem) (base a : ℕ) (bs : List ℕ) → MatchBool b (n ≡ with_bytes m a bs) (n ≡ m) →
    MatchBool b (with_unmade base n ≡ with_bytes (with_unmade base m) a bs) (with_unmade base n ≡ with_unmade base m)
set-lifts true m n base a bs put = ap (λ (k : Mem). with_unmade base k) put ∙ put-unmade m base a bs
set-lifts false m n base a bs same = ap (λ (k : Mem). with_unmade base k) same

pub deeper-is : (s : Segment) (start : ℕ) (bs room : List ℕ) → room ≡ replicate (s.address - start) 0 ++ bs → bs ≡ s.bytes →
    record { address = start; bytes = room; flags = s.flags } ≡ deeper start s
deeper-is s start bs room is same =
    ap (λ (xs : List ℕ). record { address = start; bytes = xs; flags = s.flags }) (is ∙ ap (λ (xs : List ℕ). replicate (s.address - start) 0 ++ xs) same)

pub segments-deep : (xs : List DeclaredSegment) (i start : ℕ) (s t : DeclaredSegment) → i < length xs → s ≡ get_or xs i s → segment_of t ≡ deeper start (segment_of s) →
    map segment_of (set xs i t) ≡ deep (map segment_of xs) i start
segments-deep xs i start s t within is new =
    map-set segment_of xs i t ∙ ap (set (map segment_of xs) i) (new ∙ ap (λ (u : Segment). deeper start u) (sym (element-or xs i s within is)))

pub long-deeper : (s : Segment) (start : ℕ) → length (deeper start s).bytes ≡ (s.address - start) + length s.bytes
long-deeper s start =
    length-append (replicate (s.address - start) 0) s.bytes ∙ ap (λ (n : ℕ). n + length s.bytes) (length-replicate (s.address - start) 0)

deep-range : (s : Segment) (start x : ℕ) → start ≤ s.address → lies_in (deeper start s) x ≡ true → (start ≤ x) × (x < s.address + length s.bytes)
deep-range s start x low h =
    let range = holds-range (deeper start s) x h in
    (range.0, omega (arith, range.1, long-deeper s start, low))

range-deep : (s : Segment) (start x : ℕ) → start ≤ s.address → start ≤ x → x < s.address + length s.bytes → lies_in (deeper start s) x ≡ true
range-deep s start x low above high = range-holds (deeper start s) x above (omega (arith, high, long-deeper s start, low))

set-at : (ss : List Segment) (i : ℕ) (t : Segment) → i < length ss → slice_get (set ss i t) i ≡ Some t
set-at [] i t low = absurd (omega (arith, low))
set-at (s ∷ ss) zero t low = refl
set-at (s ∷ ss) (suc i) t low = set-at ss i t (omega (arith, low))

set-other : (ss : List Segment) (i j : ℕ) (t : Segment) → (j ≡ i → ⊥) → slice_get (set ss i t) j ≡ slice_get ss j
set-other [] i j t other = refl
set-other (s ∷ ss) zero zero t other = absurd (other refl)
set-other (s ∷ ss) zero (suc j) t other = refl
set-other (s ∷ ss) (suc i) zero t other = refl
set-other (s ∷ ss) (suc i) (suc j) t other = set-other ss i j t (λ e. other (ap suc e))

-- no other segment shares an address with it
away : (ss : List Segment) (i start k : ℕ) (v : Segment) (x : ℕ) → IsGap ss i start → (k ≡ i → ⊥) → slice_get ss k ≡ Some v → lies_in v x ≡ true →
    lies_in (deeper start (get_or ss i no_segment)) x ≡ true → ⊥
away ss i start k v x gap other at held h =
    let s : Segment = get_or ss i no_segment in
    let range = deep-range s start x gap.low h in
    elim (cases_lt x s.address) [
      | inl below ↦
          let none = gap.free x range.0 below in
          let some = held-segment ss k x v gap.apart at held in
          cc
      | inr above ↦
          let here : lies_in s x ≡ true = range-holds s x above range.1 in
          other (gap.apart k i x v s at (slice_get-get_or ss i no_segment gap.within) held here)
    ]

mixed : (ss : List Segment) (i start j k x : ℕ) (u v : Segment) → IsGap ss i start → j ≡ i → (k ≡ i → ⊥) →
    slice_get (deep ss i start) j ≡ Some u → slice_get (deep ss i start) k ≡ Some v → lies_in u x ≡ true → lies_in v x ≡ true → ⊥
mixed ss i start j k x u v gap same other at_j at_k held_u held_v =
    let t : Segment = deeper start (get_or ss i no_segment) in
    let at_i : slice_get (deep ss i start) i ≡ Some u = subst (λ (n : ℕ). slice_get (deep ss i start) n ≡ Some u) same at_j in
    let put : slice_get (deep ss i start) i ≡ Some t = set-at ss i t gap.within in
    let is : u ≡ t = cc in
    let h : lies_in t x ≡ true = subst (λ (w : Segment). lies_in w x ≡ true) is held_u in
    away ss i start k v x gap other (sym (set-other ss i k t other) ∙ at_k) held_v h

pub deep-apart : (ss : List Segment) (i start : ℕ) → IsGap ss i start → AreDisjoint (deep ss i start)
deep-apart ss i start gap j k x u v at_j at_k held_u held_v =
    let t : Segment = deeper start (get_or ss i no_segment) in
    elim (cases_eq j i) [
      | inl j_is ↦ elim (cases_eq k i) [
        | inl k_is ↦ j_is ∙ sym k_is
        | inr k_not ↦ absurd (mixed ss i start j k x u v gap j_is k_not at_j at_k held_u held_v)
      ]
      | inr j_not ↦ elim (cases_eq k i) [
        | inl k_is ↦ absurd (mixed ss i start k j x v u gap k_is j_not at_k at_j held_v held_u)
        | inr k_not ↦ gap.apart j k x u v (sym (set-other ss i j t j_not) ∙ at_j) (sym (set-other ss i k t k_not) ∙ at_k) held_u held_v
      ]
    ]

-- an address that neither holds has the segment that it had
set-missed : (ss : List Segment) (i x : ℕ) (s t : Segment) → slice_get ss i ≡ Some s → lies_in s x ≡ false → lies_in t x ≡ false →
    segment_at (set ss i t) x ≡ segment_at ss x
set-missed [] i x s t at e f = refl
set-missed (u ∷ ss) zero x s t at e f =
    let is : u ≡ s = cc in
    let g : lies_in u x ≡ false = subst (λ (w : Segment). lies_in w x ≡ false) (sym is) e in
    rw (g, f) refl
set-missed (u ∷ ss) (suc i) x s t at e f = ap (λ (o : Option Segment). cond (lies_in u x) (Some u) o) (set-missed ss i x s t at e f)

lacks : (b : Bool) (s : Segment) (start x : ℕ) → start ≤ s.address → lies_in s x ≡ b → lies_in (deeper start s) x ≡ false → lies_in s x ≡ false
lacks true s start x low e f =
    let range = holds-range s x e in
    let h = range-deep s start x low (omega (arith, low, range.0)) range.1 in
    absurd (cc)
lacks false s start x low e f = e

zeros-front : (z k : ℕ) (bs : List ℕ) → k < z → get_or (replicate z 0 ++ bs) k 0 ≡ 0
zeros-front zero k bs low = absurd (omega (arith, low))
zeros-front (suc z) zero bs low = refl
zeros-front (suc z) (suc k) bs low = zeros-front z k bs (omega (arith, low))

zeros-behind : (z k n : ℕ) (bs : List ℕ) → n ≡ z + k → get_or (replicate z 0 ++ bs) n 0 ≡ get_or bs k 0
zeros-behind z k n bs is =
    let place : length (replicate z 0) + k ≡ n = omega (arith, length-replicate {A = ℕ} z 0, is) in
    ap (λ (j : ℕ). get_or (replicate z 0 ++ bs) j 0) (sym place) ∙ get_or-append-add (replicate z 0) bs k 0

-- the byte and the right of an address, whether the longer segment holds it
deep-byte : (b : Bool) (ss : List Segment) (i start x : ℕ) → IsGap ss i start → lies_in (deeper start (get_or ss i no_segment)) x ≡ b →
    byte_in (segment_at (deep ss i start) x) x ≡ byte_in (segment_at ss x) x
deep-byte true ss i start x gap h =
    let s : Segment = get_or ss i no_segment in
    let t : Segment = deeper start s in
    let range = deep-range s start x gap.low h in
    let found : segment_at (deep ss i start) x ≡ Some t = held-segment (deep ss i start) i x t (deep-apart ss i start gap) (set-at ss i t gap.within) h in
    let new : byte_in (segment_at (deep ss i start) x) x ≡ get_or t.bytes (x - start) 0 = ap (λ (o : Option Segment). byte_in o x) found in
    elim (cases_lt x s.address) [
      | inl below ↦
          let old : byte_in (segment_at ss x) x ≡ 0 = ap (λ (o : Option Segment). byte_in o x) (gap.free x range.0 below) in
          new ∙ zeros-front (s.address - start) (x - start) s.bytes (omega (arith, below, range.0)) ∙ sym old
      | inr above ↦
          let here : segment_at ss x ≡ Some s = held-segment ss i x s gap.apart (slice_get-get_or ss i no_segment gap.within) (range-holds s x above range.1) in
          let old : byte_in (segment_at ss x) x ≡ get_or s.bytes (x - s.address) 0 = ap (λ (o : Option Segment). byte_in o x) here in
          new ∙ zeros-behind (s.address - start) (x - s.address) (x - start) s.bytes (omega (arith, above, gap.low)) ∙ sym old
    ]
deep-byte false ss i start x gap h =
    let s : Segment = get_or ss i no_segment in
    ap (λ (o : Option Segment). byte_in o x)
    (set-missed ss i x s (deeper start s) (slice_get-get_or ss i no_segment gap.within) (lacks (lies_in s x) s start x gap.low refl h) h)

stack-gives : (f base x : ℕ) (r : Right) → f ≡ 6 → lies_unmade base x ≡ true → gives_right f r ≡ (in_unmade base x r || false)
stack-gives f base x Read six e = ap (λ (g : ℕ). gives_right g Read) six ∙ sym (ap (λ (b : Bool). b || false) e)
stack-gives f base x Write six e = ap (λ (g : ℕ). gives_right g Write) six ∙ sym (ap (λ (b : Bool). b || false) e)
stack-gives f base x Execute six e = ap (λ (g : ℕ). gives_right g Execute) six

outside : (b : Bool) (s : Segment) (x : ℕ) → stack_start ≤ s.address → lies_in (deeper stack_start s) x ≡ false → lies_unmade s.address x ≡ b → lies_unmade s.address x ≡ false
outside true s x low h e =
    let range = unmade-range s.address x e in
    let held = range-deep s stack_start x low range.0 (omega (arith, range.1)) in
    absurd (cc)
outside false s x low h e = e

deep-right : (b : Bool) (ss : List Segment) (i x : ℕ) (r : Right) → IsGap ss i stack_start → (get_or ss i no_segment).flags ≡ 6 →
    lies_in (deeper stack_start (get_or ss i no_segment)) x ≡ b →
    right_in (segment_at (deep ss i stack_start) x) r ≡ (in_unmade (get_or ss i no_segment).address x r || right_in (segment_at ss x) r)
deep-right true ss i x r gap six h =
    let s : Segment = get_or ss i no_segment in
    let t : Segment = deeper stack_start s in
    let range = deep-range s stack_start x gap.low h in
    let found : segment_at (deep ss i stack_start) x ≡ Some t = held-segment (deep ss i stack_start) i x t (deep-apart ss i stack_start gap) (set-at ss i t gap.within) h in
    let new : right_in (segment_at (deep ss i stack_start) x) r ≡ gives_right s.flags r = ap (λ (o : Option Segment). right_in o r) found in
    elim (cases_lt x s.address) [
      | inl below ↦
          let old : right_in (segment_at ss x) r ≡ false = ap (λ (o : Option Segment). right_in o r) (gap.free x range.0 below) in
          new ∙ stack-gives s.flags s.address x r six (range-unmade s.address x range.0 below) ∙ ap (λ (b : Bool). in_unmade s.address x r || b) (sym old)
      | inr above ↦
          let here : segment_at ss x ≡ Some s = held-segment ss i x s gap.apart (slice_get-get_or ss i no_segment gap.within) (range-holds s x above range.1) in
          let old : right_in (segment_at ss x) r ≡ gives_right s.flags r = ap (λ (o : Option Segment). right_in o r) here in
          new ∙ sym old ∙ sym (has-made (memory_of ss) s.address x r (above-unmade s.address x above))
    ]
deep-right false ss i x r gap six h =
    let s : Segment = get_or ss i no_segment in
    ap (λ (o : Option Segment). right_in o r)
    (set-missed ss i x s (deeper stack_start s) (slice_get-get_or ss i no_segment gap.within) (lacks (lies_in s x) s stack_start x gap.low refl h) h)
    ∙ sym (has-made (memory_of ss) s.address x r (outside (lies_unmade s.address x) s x gap.low h refl))

pub unmade-gap : (ss : List Segment) (i base : ℕ) → AreDisjoint ss → IsUnmade ss i base → IsGap ss i stack_start
unmade-gap ss i base apart is = record {
  apart = apart;
  within = is.within;
  low = omega (arith, is.above, is.top.starts);
  free = λ x low high. is.free x low (omega (arith, high, is.top.starts));
}

-- the memory is the same, as soon as a segment has all of the stack
pub deep-memory : (ss : List Segment) (i base : ℕ) → AreDisjoint ss → IsUnmade ss i base →
    with_unmade stack_start (memory_of (deep ss i stack_start)) ≡ with_unmade base (memory_of ss)
deep-memory ss i base apart is =
    let s : Segment = get_or ss i no_segment in
    let gap = unmade-gap ss i base apart is in
    let bytes : (memory_of (deep ss i stack_start)).byte ≡ (memory_of ss).byte = fun_ext (λ (x : ℕ). deep-byte (lies_in (deeper stack_start s) x) ss i stack_start x gap refl) in
    let rights : (memory_of (deep ss i stack_start)).has ≡ (with_unmade s.address (memory_of ss)).has =
    fun_ext (λ (x : ℕ). fun_ext (λ (r : Right). deep-right (lies_in (deeper stack_start s) x) ss i x r gap is.top.flags refl)) in
    none-unmade (memory_of (deep ss i stack_start))
    ∙ same-memory (memory_of (deep ss i stack_start)) (with_unmade s.address (memory_of ss)) bytes rights
    ∙ ap (λ (a : ℕ). with_unmade a (memory_of ss)) is.top.starts

pub same-at : (ss : List Segment) (i j : ℕ) (t : Segment) → i < length ss → j ≡ i → get_or (set ss i t) j no_segment ≡ t
same-at ss i j t within same = ap (λ (k : ℕ). get_or (set ss i t) k no_segment) same ∙ get_or-set_same ss i t no_segment within

-- segments below begin at the address or below
below-gap : (ss : List Segment) (i start j : ℕ) → IsGap ss i start → AreOrdered ss → (j ≡ i → ⊥) → j ≤ i → (get_or ss j no_segment).address ≤ start
below-gap ss i start j gap ordered other low =
    let s : Segment = get_or ss i no_segment in
    let u : Segment = get_or ss j no_segment in
    let in_j : j < length ss = omega (arith, low, gap.within) in
    let rise = ordered.rises j i low gap.within in
    let some = ordered.filled j in_j in
    let size = ordered.filled i gap.within in
    elim (cases_lt start u.address) [
      | inl above ↦
          let held : lies_in u u.address ≡ true = range-holds u u.address (omega arith) (omega (arith, some)) in
          let shared : lies_in (deeper start s) u.address ≡ true = range-deep s start u.address gap.low (omega (arith, above)) (omega (arith, rise, size)) in
          absurd (away ss i start j u u.address gap other (slice_get-get_or ss j no_segment in_j) held shared)
      | inr under ↦ under
    ]

pub address-at : (ss : List Segment) (i start j : ℕ) → i < length ss → j ≡ i → (get_or (deep ss i start) j no_segment).address ≡ start
address-at ss i start j within same = ap (λ (u : Segment). u.address) (same-at ss i j (deeper start (get_or ss i no_segment)) within same)

pub size-at : (ss : List Segment) (i start j : ℕ) → i < length ss → j ≡ i →
    length (get_or (deep ss i start) j no_segment).bytes ≡ ((get_or ss i no_segment).address - start) + length (get_or ss i no_segment).bytes
size-at ss i start j within same =
    ap (λ (u : Segment). length u.bytes) (same-at ss i j (deeper start (get_or ss i no_segment)) within same) ∙ long-deeper (get_or ss i no_segment) start

flags-at : (ss : List Segment) (i start j : ℕ) → i < length ss → j ≡ i → (get_or (deep ss i start) j no_segment).flags ≡ (get_or ss i no_segment).flags
flags-at ss i start j within same = ap (λ (u : Segment). u.flags) (same-at ss i j (deeper start (get_or ss i no_segment)) within same)

pub other-at : (ss : List Segment) (i start j : ℕ) → (j ≡ i → ⊥) → get_or (deep ss i start) j no_segment ≡ get_or ss j no_segment
other-at ss i start j other = get_or-set_other ss i j (deeper start (get_or ss i no_segment)) no_segment other

pub address-other : (ss : List Segment) (i start j : ℕ) → (j ≡ i → ⊥) → (get_or (deep ss i start) j no_segment).address ≡ (get_or ss j no_segment).address
address-other ss i start j other = ap (λ (u : Segment). u.address) (other-at ss i start j other)

pub size-other : (ss : List Segment) (i start j : ℕ) → (j ≡ i → ⊥) → length (get_or (deep ss i start) j no_segment).bytes ≡ length (get_or ss j no_segment).bytes
size-other ss i start j other = ap (λ (u : Segment). length u.bytes) (other-at ss i start j other)

pub deep-count : (ss : List Segment) (i start : ℕ) → length (deep ss i start) ≡ length ss
deep-count ss i start = length-set {A = Segment} ss i (deeper start (get_or ss i no_segment))

pub deep-ordered : (ss : List Segment) (i start : ℕ) → IsGap ss i start → AreOrdered ss → AreOrdered (deep ss i start)
deep-ordered ss i start gap ordered = record {
  rises = λ j k low within.
      let in_k : k < length ss = omega (arith, within, deep-count ss i start) in
      elim (cases_eq j i) [
        | inl j_is ↦ elim (cases_eq k i) [
          | inl k_is ↦ omega (arith, address-at ss i start j gap.within j_is, address-at ss i start k gap.within k_is)
          | inr k_not ↦
              let rise = ordered.rises i k (omega (arith, low, j_is)) in_k in
              omega (arith, address-at ss i start j gap.within j_is, address-other ss i start k k_not, rise, gap.low)
        ]
        | inr j_not ↦ elim (cases_eq k i) [
          | inl k_is ↦
              let under = below-gap ss i start j gap ordered j_not (omega (arith, low, k_is)) in
              omega (arith, address-other ss i start j j_not, address-at ss i start k gap.within k_is, under)
          | inr k_not ↦
              let rise = ordered.rises j k low in_k in
              omega (arith, address-other ss i start j j_not, address-other ss i start k k_not, rise)
        ]
      ];
  filled = λ j within.
      let in_j : j < length ss = omega (arith, within, deep-count ss i start) in
      elim (cases_eq j i) [
        | inl same ↦
            let some = ordered.filled i gap.within in
            omega (arith, size-at ss i start j gap.within same, some)
        | inr other ↦
            let some = ordered.filled j in_j in
            omega (arith, size-other ss i start j other, some)
      ];
}

-- what the longer segment does not hold has no segment more
deep-none : (b : Bool) (ss : List Segment) (i start x : ℕ) → IsGap ss i start → lies_in (deeper start (get_or ss i no_segment)) x ≡ b → (b ≡ true → ⊥) →
    segment_at ss x ≡ None → segment_at (deep ss i start) x ≡ None
deep-none true ss i start x gap h never none = absurd (never refl)
deep-none false ss i start x gap h never none =
    let s : Segment = get_or ss i no_segment in
    set-missed ss i x s (deeper start s) (slice_get-get_or ss i no_segment gap.within) (lacks (lies_in s x) s start x gap.low refl h) h ∙ none

pub deep-listed : (ss : List Segment) (i base : ℕ) (pages : List Page) → AreDisjoint ss → IsUnmade ss i base → AreListed ss pages → AreListed (deep ss i stack_start) pages
deep-listed ss i base pages apart is are = record {
  ascending = are.ascending;
  all = λ x none.
      let s : Segment = get_or ss i no_segment in
      let gap = unmade-gap ss i base apart is in
      deep-none (lies_in (deeper stack_start s) x) ss i stack_start x gap refl (λ h.
      let range = deep-range s stack_start x gap.low h in
      let listed = are.stack x range.0 (omega (arith, range.1, is.top.starts, is.top.ends)) in
      cc) (are.all x none);
  stack = are.stack;
}

deep-rest : (ss : List Segment) (i start : ℕ) → IsGap ss i start → AreBehind ss → AreBehind (deep ss i start)
deep-rest [] i start gap behind = behind
deep-rest (s ∷ ss) zero start gap behind = behind
deep-rest (s ∷ ss) (suc i) start gap behind = deep-ordered ss i start rest behind
  where
    none-rest : (b : Bool) (x : ℕ) → cond b (Some s) (segment_at ss x) ≡ None → segment_at ss x ≡ None
    none-rest true x e = absurd (cc)
    none-rest false x e = e

    rest : IsGap ss i start
    rest = record {
      apart = disjoint-rest s ss gap.apart;
      within = omega (arith, gap.within);
      low = gap.low;
      free = λ x low high. none-rest (lies_in s x) x (gap.free x low high);
    }

pub deep-behind : (ss : List Segment) (i base : ℕ) → AreDisjoint ss → IsUnmade ss i base → AreBehind ss → AreBehind (deep ss i stack_start)
deep-behind ss i base apart is behind = deep-rest ss i stack_start (unmade-gap ss i base apart is) behind

pub deep-unmade : (ss : List Segment) (i base : ℕ) → AreDisjoint ss → IsUnmade ss i base → IsUnmade (deep ss i stack_start) i stack_start
deep-unmade ss i base apart is = record {
  within = omega (arith, is.within, deep-count ss i stack_start);
  top = record {
    starts = address-at ss i stack_start i is.within refl;
    ends = omega (arith, size-at ss i stack_start i is.within refl, is.top.starts, is.top.ends, is.above);
    flags = flags-at ss i stack_start i is.within refl ∙ is.top.flags;
  };
  above = omega arith;
  free = λ x low high. absurd (omega (arith, low, high));
}
