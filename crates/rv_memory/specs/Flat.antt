-- The memory that segments make.

use Rattle.std.specs.Prelude.{◌≡◌, ℕ, ◌+◌, true, List, ◌++◌, Some, length, take, drop, slice_get, []}
use Rattle.rv_isa_laws.specs.Memory.{Mem}
use Rattle.rv_image_laws.specs.Segment.{Segment}
use Rattle.rv_image_laws.specs.Memory.{lies_in, segment_at, byte_in, right_in}

-- the memory of segments: each address has the byte and the rights that its segment gives it
abbrev pub memory_of : List Segment → Mem
memory_of segments = record {
  byte = λ x. byte_in (segment_at segments x) x;
  has = λ x right. right_in (segment_at segments x) right;
}

-- no address lies in two segments
abbrev pub AreDisjoint : List Segment → Type 0
AreDisjoint segments =
    (i j x : ℕ) (s t : Segment) → slice_get segments i ≡ Some s → slice_get segments j ≡ Some t →
    lies_in s x ≡ true → lies_in t x ≡ true → i ≡ j

-- a segment without bytes
abbrev pub no_segment : Segment
no_segment = record { address = 0; bytes = []; flags = 0 }

-- a segment whose bytes are replaced from its kth on
abbrev pub with_part : Segment → ℕ → List ℕ → Segment
with_part s k bs =
    record {
      address = s.address;
      bytes = take k s.bytes ++ (bs ++ drop (k + length bs) s.bytes);
      flags = s.flags;
    }
