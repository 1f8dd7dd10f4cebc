-- The memory of an image: what of it may be written, and what stands there.

use Rattle.std.proofs.Common.{◌≡◌, ℕ, zero, suc, ◌+◌, ◌-◌, ◌%◌, ◌^◌, ◌≤◌, ◌<◌, Bool, true, false, not, cond, ◌&&◌, ◌||◌, List, [], ◌∷◌, Option, Some, None, length, get_or, slice_get, take, drop, map, refl, ap, sym, subst, ◌∙◌, arith}
use Rattle.std.specs.Prelude.{nat_le, nat_lt, replicate, if◌then◌else◌}
use Rattle.std.specs.List.{list_all}
use Rattle.std.proofs.lemmas.Bool.{and_parts}
use Rattle.std.proofs.lemmas.Bool.Decides.{nat_tests}
use Rattle.std.proofs.lemmas.List.{take_all}
use Rattle.rv_list_laws.proofs.ElementsLemmas.{get_front}
use Rattle.rv_isa_laws.specs.Memory.{Mem, Right, Read, Write, may, bytes_at}
use Rattle.rv_isa_laws.specs.Platform.{stack_start, stack_end}
use Rattle.rv_image_laws.specs.Image.{Image}
use Rattle.rv_image_laws.specs.Segment.{Segment, meets_stack, meets_segment, are_apart}
use Rattle.rv_image_laws.specs.Memory.{lies_in, segment_at, byte_in, right_in, gives_right, in_stack, mem_of}
use Rattle.rv_image.specs.SegmentView.{segment_of}
use Rattle.rv_image.specs.Views.{image_of}
use Rattle.rv_image.specs.declared.image.Image.{Image as DeclaredImage}
use Rattle.rv_image.specs.declared.segment.Segment.{Segment as DeclaredSegment}
use Rattle.rv_memory.specs.Flat.{memory_of, AreDisjoint}
use Rattle.rv_memory.proofs.FlatLemmas.{element, bytes-within, may-within}
use Rattle.rv_memory.proofs.MemoryLemmas.{may-parts, may-front, bytes-take}
use Rattle.rv_memory.proofs.NewLemmas.{IsStack, disjoint-with-stack}
use Rattle.rv_states.specs.Keeps.{Keeps}
use Rattle.rv_states.specs.Snapshot.{is_readable, has_snapshots}
use Rattle.rv_states.specs.Pieces.{written_size}

-- a part of a range has its rights, and its bytes
pub may_inside : (m : Mem) (a n j k b : ℕ) (r : Right) → b ≡ a + j → j + k ≤ n → may m a n r ≡ true → may m b k r ≡ true
may_inside m a n j k b r at within h =
    let rest : n ≡ j + (n - j) = omega arith in
    let behind : may m b (n - j) r ≡ true = may-parts m a j (n - j) b n r at rest (may-front m a n j r (omega arith) h) ∙ h in
    may-front m b (n - j) k r (omega arith) behind

pub bytes_inside : (m : Mem) (a n j k b : ℕ) → b ≡ a + j → j + k ≤ n → bytes_at m b k ≡ take k (drop j (bytes_at m a n))
bytes_inside m a n zero k b at within = ap (λ (x : ℕ). bytes_at m x k) (let e : b ≡ a = omega arith in e) ∙ bytes-take m a n k (omega arith)
bytes_inside m a zero (suc j) k b at within = absurd (omega arith)
bytes_inside m a (suc n) (suc j) k b at within = bytes_inside m (a + 1) n j k b (omega arith) (omega arith)

-- memories with the same bytes, or more rights
bytes_same : (m n : Mem) (a k : ℕ) → m.byte ≡ n.byte → bytes_at m a k ≡ bytes_at n a k
bytes_same m n a zero e = refl
bytes_same m n a (suc k) e =
    ap (λ (f : ℕ → ℕ). f (a % 2 ^ 64) ∷ bytes_at m (a + 1) k) e ∙ ap (λ (l : List ℕ). n.byte (a % 2 ^ 64) ∷ l) (bytes_same m n (a + 1) k e)

may_more : (m n : Mem) (a k : ℕ) (r : Right) → ((x : ℕ) → m.has x r ≡ true → n.has x r ≡ true) → may m a k r ≡ true → may n a k r ≡ true
may_more m n a zero r more h = refl
may_more m n a (suc k) r more h =
    let both = and_parts (m.has (a % 2 ^ 64) r) (may m (a + 1) k r) h in
    rw (more (a % 2 ^ 64) both.0) (may_more m n (a + 1) k r more both.1)

-- segments that are apart share no address
last_byte : Segment
last_byte = record { address = 0x3FFF_FFFF; bytes = 0 ∷ []; flags = 6 }

last_zero : (k : ℕ) → get_or last_byte.bytes k 0 ≡ 0
unfolding last_byte
last_zero zero = refl
last_zero (suc k) = refl

is_stack : IsStack last_byte
unfolding last_byte
is_stack = record { low = omega arith; high = omega arith; ends = omega arith; zeros = last_zero; flags = refl }

pub disjoint : (ss : List Segment) → are_apart ss ≡ true → AreDisjoint ss
disjoint ss apart i j x s t at_i at_j held_s held_t =
    disjoint-with-stack ss last_byte is_stack apart i j x s t (get_front ss (last_byte ∷ []) i s at_i) (get_front ss (last_byte ∷ []) j t at_j) held_s held_t

-- none has an address of the stack
lacks : (s : Segment) (x : ℕ) → not (meets_stack s) ≡ true → stack_start ≤ x → x < stack_end → lies_in s x ≡ false
lacks s x away low high = grind (arith, nat_tests)

pub none_in_stack : (ss : List Segment) (x : ℕ) → are_apart ss ≡ true → stack_start ≤ x → x < stack_end → segment_at ss x ≡ None
none_in_stack [] x apart low high = refl
none_in_stack (s ∷ ss) x apart low high =
    let both = and_parts (not (meets_stack s) && list_all (λ t. not (meets_segment s t)) ss) (are_apart ss) apart in
    let first = and_parts (not (meets_stack s)) (list_all (λ t. not (meets_segment s t)) ss) both.0 in
    ap (λ (b : Bool). cond b (Some s) (segment_at ss x)) (lacks s x first.0 low high) ∙ none_in_stack ss x both.1 low high

pub stack_zero : (image : Image) (x : ℕ) → are_apart image.segments ≡ true → stack_start ≤ x → x < stack_end → (mem_of image).byte x ≡ 0
stack_zero image x apart low high = ap (λ (o : Option Segment). byte_in o x) (none_in_stack image.segments x apart low high)

-- the stack can be read and written
or_right : (b c : Bool) → c ≡ true → (b || c) ≡ true
or_right true c h = refl
or_right false c h = h

or_left : (b c : Bool) → b ≡ true → (b || c) ≡ true
or_left true c h = refl
or_left false c h = absurd (cc)

stack_has : (x : ℕ) → stack_start ≤ x → x < stack_end → (in_stack x Read ≡ true) × (in_stack x Write ≡ true)
stack_has x low high = let t : (nat_le stack_start x && nat_lt x stack_end) ≡ true = grind (arith, nat_tests) in (t, t)

pub stack_may : (image : Image) (a n : ℕ) → stack_start ≤ a → a + n ≤ stack_end →
    (may (mem_of image) a n Read ≡ true) × (may (mem_of image) a n Write ≡ true)
stack_may image a zero low high = (refl, refl)
stack_may image a (suc n) low high =
    let wraps : a % 2 ^ 64 ≡ a = omega arith in
    let here = stack_has a low (omega arith) in
    let rest = stack_may image (a + 1) n (omega arith) (omega arith) in
    let read : (mem_of image).has (a % 2 ^ 64) Read ≡ true = rw wraps (or_right (right_in (segment_at image.segments a) Read) (in_stack a Read) here.0) in
    let write : (mem_of image).has (a % 2 ^ 64) Write ≡ true = rw wraps (or_right (right_in (segment_at image.segments a) Write) (in_stack a Write) here.1) in
    (rw read rest.0, rw write rest.1)

-- rights of the image's memory are the machine's
pub kept_may : (image m : Mem) (a n : ℕ) (r : Right) → Keeps image m → may image a n r ≡ true → may m a n r ≡ true
kept_may image m a n r keeps h = may_more image m a n r (λ x has. keeps.rights x r ∙ has) h

-- a segment's rights and bytes
pub segment_may : (image : Image) (i : ℕ) (s : Segment) (r : Right) → are_apart image.segments ≡ true → slice_get image.segments i ≡ Some s →
    s.address + length s.bytes ≤ 2 ^ 64 → gives_right s.flags r ≡ true → may (mem_of image) s.address (length s.bytes) r ≡ true
segment_may image i s r apart at fits right =
    may_more (memory_of image.segments) (mem_of image) s.address (length s.bytes) r
    (λ x has. or_left (right_in (segment_at image.segments x) r) (in_stack x r) has)
    (may-within image.segments i s s.address (length s.bytes) r (disjoint image.segments apart) at fits (omega arith) (omega arith) right)

pub segment_bytes : (image : Image) (i : ℕ) (s : Segment) → are_apart image.segments ≡ true → slice_get image.segments i ≡ Some s →
    s.address + length s.bytes ≤ 2 ^ 64 → bytes_at (mem_of image) s.address (length s.bytes) ≡ s.bytes
segment_bytes image i s apart at fits =
    bytes_same (mem_of image) (memory_of image.segments) s.address (length s.bytes) refl
    ∙ bytes-within image.segments i s s.address 0 (length s.bytes) (disjoint image.segments apart) at fits (omega arith) (omega arith)
    ∙ take_all (length s.bytes) s.bytes (omega arith)

-- what may be written can be read
pub readable : (ss : List Segment) (i : ℕ) (s : Segment) → list_all is_readable ss ≡ true → slice_get ss i ≡ Some s → is_readable s ≡ true
readable [] i s all at = absurd (cc)
readable (t ∷ ss) zero s all at =
    let same : t ≡ s = cc in
    subst (λ (u : Segment). is_readable u ≡ true) same (and_parts (is_readable t) (list_all is_readable ss) all).0
readable (t ∷ ss) (suc i) s all at = readable ss i s (and_parts (is_readable t) (list_all is_readable ss) all).1 at

pub can_be_read : (s : Segment) → is_readable s ≡ true → gives_right s.flags Write ≡ true → gives_right s.flags Read ≡ true
can_be_read s h write = rw write at h

-- an element of the code's list
pub segment_read : (image : DeclaredImage) (list : List DeclaredSegment) (i : ℕ) (s : DeclaredSegment) → list ≡ image.segments.items → i < length list → s ≡ get_or list i s →
    slice_get (image_of image).segments i ≡ Some (segment_of s)
segment_read image list i s same within is = ap (λ (l : List DeclaredSegment). slice_get (map segment_of l) i) (sym same) ∙ element list i s within is

-- the segment of an address has an index
first_or_later : (b : Bool) (t s : Segment) (ss : List Segment) (x : ℕ) → cond b (Some t) (segment_at ss x) ≡ Some s →
    (segment_at ss x ≡ Some s → (k : ℕ) × (k < length ss) × (slice_get ss k ≡ Some s)) →
    (k : ℕ) × (k < suc (length ss)) × (slice_get (t ∷ ss) k ≡ Some s)
first_or_later true t s ss x e later = (0, omega arith, e)
first_or_later false t s ss x e later = let f = later e in let low = f.1 in (suc f.0, omega arith, f.2)

pub index_of : (ss : List Segment) (x : ℕ) (s : Segment) → segment_at ss x ≡ Some s → (k : ℕ) × (k < length ss) × (slice_get ss k ≡ Some s)
index_of [] x s e = absurd (cc)
index_of (t ∷ ss) x s e = first_or_later (lies_in t x) t s ss x e (index_of ss x s)

-- zeros, as they stand in an array and in memory
abbrev nothing : ℕ
nothing = 0

pub all_zero : (n k : ℕ) → get_or (replicate n nothing) k 0 ≡ nothing
all_zero zero k = refl
all_zero (suc n) zero = refl
all_zero (suc n) (suc k) = all_zero n k

pub zero_bytes : (m : Mem) (a n : ℕ) (zeros : List ℕ) → ((k : ℕ) → get_or zeros k 0 ≡ 0) → n ≤ length zeros → a + n ≤ 2 ^ 64 →
    ((x : ℕ) → a ≤ x → x < a + n → m.byte x ≡ 0) → bytes_at m a n ≡ take n zeros
zero_bytes m a zero zeros all long fits none = refl
zero_bytes m a (suc n) [] all long fits none = absurd (omega arith)
zero_bytes m a (suc n) (z ∷ zeros) all long fits none =
    let wraps : a % 2 ^ 64 ≡ a = omega arith in
    let first : m.byte (a % 2 ^ 64) ≡ z = ap m.byte wraps ∙ none a (omega arith) (omega arith) ∙ sym (all 0) in
    let rest = zero_bytes m (a + 1) n zeros (λ k. all (suc k)) (omega arith) (omega arith) (λ x low high. none x (omega arith) (omega arith)) in
    ap (λ (b : ℕ). b ∷ bytes_at m (a + 1) n) first ∙ ap (λ (l : List ℕ). z ∷ l) rest

-- what of a segment may be written can be read, and is written
written_may_by : (b : Bool) (image : Image) (m : Mem) (i : ℕ) (s : Segment) → Keeps (mem_of image) m → has_snapshots image ≡ true → are_apart image.segments ≡ true →
    slice_get image.segments i ≡ Some s → s.address + length s.bytes ≤ 2 ^ 64 → gives_right s.flags Write ≡ b →
    (may m s.address (if b then length s.bytes else 0) Read ≡ true) × (may m s.address (if b then length s.bytes else 0) Write ≡ true)
written_may_by true image m i s keeps all apart at fits right = (
  kept_may (mem_of image) m s.address (length s.bytes) Read keeps
      (segment_may image i s Read apart at fits (can_be_read s (readable image.segments i s all at) right)),
  kept_may (mem_of image) m s.address (length s.bytes) Write keeps (segment_may image i s Write apart at fits right),
)
written_may_by false image m i s keeps all apart at fits right = (refl, refl)

pub written_may : (image : Image) (m : Mem) (i : ℕ) (s : Segment) → Keeps (mem_of image) m → has_snapshots image ≡ true → are_apart image.segments ≡ true →
    slice_get image.segments i ≡ Some s → s.address + length s.bytes ≤ 2 ^ 64 →
    (may m s.address (written_size s) Read ≡ true) × (may m s.address (written_size s) Write ≡ true)
written_may image m i s keeps all apart at fits = written_may_by (gives_right s.flags Write) image m i s keeps all apart at fits refl
