-- The lower part of the stack before anything is written there: zeros that no segment has yet.

use Rattle.std.specs.Prelude.{◌≡◌, ℕ, ◌+◌, ◌-◌, ◌<◌, ◌≤◌, nat_le, nat_lt, Bool, false, ◌&&◌, ◌||◌, List, ◌++◌, [], length, replicate, slice_index_or, set, None, MatchOption}
use Rattle.rv_isa_laws.specs.Memory.{Mem, Right, Read, Write, Execute}
use Rattle.rv_isa_laws.specs.Platform.{stack_start, stack_end}
use Rattle.rv_image_laws.specs.Segment.{Segment}
use Rattle.rv_image_laws.specs.Memory.{segment_at}
use Rattle.rv_memory.specs.Flat.{AreDisjoint, no_segment}

-- an address of the stack below base, from which on a segment has its bytes
abbrev pub lies_unmade : ℕ → ℕ → Bool
lies_unmade base x = nat_le stack_start x && nat_lt x base

-- it can be read and written, as all of the stack
abbrev pub in_unmade : ℕ → ℕ → Right → Bool
in_unmade base x Execute = false
in_unmade base x Write = lies_unmade base x
in_unmade base x Read = lies_unmade base x

-- a memory and that part of the stack, where it has no right and the byte 0
abbrev pub with_unmade : ℕ → Mem → Mem
with_unmade base m = record {
  byte = m.byte;
  has = λ x right. in_unmade base x right || m.has x right;
}

-- no segment lies there
abbrev pub IsFree : List Segment → ℕ → Type 0
IsFree segments base =
    (x : ℕ) → stack_start ≤ x → x < base → segment_at segments x ≡ None

-- the stack from base on
pub record IsTop (base : ℕ) (s : Segment) : Type 0 where
  pub starts : s.address ≡ base
  pub ends : base + length s.bytes ≡ stack_end
  pub flags : s.flags ≡ 6

-- the segment of base is the stack from there on
abbrev pub HasTop : List Segment → ℕ → Type 0
HasTop segments base = MatchOption (segment_at segments base) ⊥ (λ s. IsTop base s)

-- the segment at index i is the stack from base on, and none lies in the stack below
pub record IsUnmade (segments : List Segment) (i base : ℕ) : Type 0 where
  pub within : i < length segments
  pub top : IsTop base (slice_index_or segments i no_segment)
  pub above : stack_start ≤ base
  pub free : IsFree segments base

-- where a part of the stack is not made, an empty list has room for all of its bytes
abbrev pub CanDeepen : ℕ → List ℕ → ℕ → Type 0
CanDeepen base items capacity = stack_start < base → (items ≡ []) × (0x10_0000 ≤ capacity)

-- a segment with zeros in front, from start on
abbrev pub deeper : ℕ → Segment → Segment
deeper start s = record {
  address = start;
  bytes = replicate (s.address - start) 0 ++ s.bytes;
  flags = s.flags;
}

-- the segments, where the one at index i begins at the address
abbrev pub deep : List Segment → ℕ → ℕ → List Segment
deep segments i start =
    set segments i (deeper start (slice_index_or segments i no_segment))

-- between an address and the segment at index i, which begins there or above, no segment lies
pub record IsGap (segments : List Segment) (i start : ℕ) : Type 0 where
  pub apart : AreDisjoint segments
  pub within : i < length segments
  pub low : start ≤ (slice_index_or segments i no_segment).address
  pub free : (x : ℕ) → start ≤ x → x < (slice_index_or segments i no_segment).address →
      segment_at segments x ≡ None
