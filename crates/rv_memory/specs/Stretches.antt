-- Addresses at which an access needs no search.

use Rattle.std.specs.Prelude.{◌≡◌, ℕ, ◌+◌, ◌<◌, ◌≤◌, true, List, length, slice_index_or}
use Rattle.rv_isa_laws.specs.Memory.{Right}
use Rattle.rv_image_laws.specs.Segment.{Segment}
use Rattle.rv_image_laws.specs.Memory.{gives_right}
use Rattle.rv_memory.specs.Flat.{no_segment}

-- the segment at index i begins at an address, has so many bytes and gives the right
pub record IsWide (segments : List Segment) (i start size : ℕ) (right : Right) : Type 0 where
  pub within : i < length segments
  pub starts : (slice_index_or segments i no_segment).address ≡ start
  pub fits : size ≤ length (slice_index_or segments i no_segment).bytes
  pub gives : gives_right (slice_index_or segments i no_segment).flags right ≡ true

-- as many bytes as that from each of the first addresses on lie in the segment,
-- which gives the right
abbrev pub IsStretch : List Segment → ℕ → ℕ → ℕ → ℕ → Right → Type 0
IsStretch segments i start room bytes right =
    (x : ℕ) → x < room → IsWide segments i start (x + bytes) right

-- segments at the same addresses, with as many bytes and the same rights
pub record AreAlike (before after : List Segment) : Type 0 where
  pub count : length after ≡ length before
  pub addresses : (k : ℕ) →
      (slice_index_or after k no_segment).address
      ≡ (slice_index_or before k no_segment).address
  pub lengths : (k : ℕ) →
      length (slice_index_or after k no_segment).bytes
      ≡ length (slice_index_or before k no_segment).bytes
  pub flags : (k : ℕ) →
      (slice_index_or after k no_segment).flags
      ≡ (slice_index_or before k no_segment).flags
