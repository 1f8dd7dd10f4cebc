-- What pieces of memory make of an image's memory, on the way to a machine's.

use Rattle.std.specs.Prelude.{◌≡◌, ℕ, ◌+◌, ◌<◌, ◌≤◌, ◌⊎◌, if◌then◌else◌, true, List, ◌++◌, length, Some, slice_get}
use Rattle.rv_isa_laws.specs.Memory.{Mem, Right, Write}
use Rattle.rv_image_laws.specs.Image.{Image}
use Rattle.rv_image_laws.specs.Segment.{Segment}
use Rattle.rv_image_laws.specs.Memory.{mem_of, lies_in, gives_right}
use Rattle.rv_states.specs.declared.pieces.Pieces.{Pieces}
use Rattle.rv_states.specs.Snapshot.{with_pieces}

-- whatever follows, the pieces make m of the image's memory; each byte of m is the image's or the
-- machine's, and its rights are the machine's
pub record Make (pieces : Pieces) (image machine m : Mem) : Type 0 where
  pub put : (n : ℕ) (rest : List ℕ) →
      with_pieces (pieces.count + n) (pieces.bytes.items ++ rest) image ≡ with_pieces n rest m
  pub rights : (x : ℕ) (right : Right) → m.has x right ≡ machine.has x right
  pub bytes : (x : ℕ) → (m.byte x ≡ image.byte x) ⊎ (m.byte x ≡ machine.byte x)

-- n has the machine's bytes wherever m has, and at so many addresses from one on
pub record IsNearer (machine m n : Mem) (address count : ℕ) : Type 0 where
  pub before : (x : ℕ) → m.byte x ≡ machine.byte x → n.byte x ≡ machine.byte x
  pub now : (x : ℕ) → address ≤ x → x < address + count → n.byte x ≡ machine.byte x

-- where the old pieces make a memory, the new ones make one that has the machine's bytes there too
abbrev pub Add : Pieces → Pieces → (image machine : Mem) → (address count : ℕ) → Type 0
Add old new image machine address count =
    (m : Mem) → Make old image machine m →
    (n : Mem) × Make new image machine n × IsNearer machine m n address count

-- how many bytes of a segment may be written: all or none
abbrev pub written_size : Segment → ℕ
written_size s = if gives_right s.flags Write then length s.bytes else 0

-- the pieces make a memory that has the machine's bytes in the first i segments that may be written
pub record Reach (pieces : Pieces) (image : Image) (machine : Mem) (i : ℕ) : Type 0 where
  pub memory : Mem
  pub made : Make pieces (mem_of image) machine memory
  pub same : (k : ℕ) (s : Segment) (x : ℕ) → k < i → slice_get image.segments k ≡ Some s →
      gives_right s.flags Write ≡ true → lies_in s x ≡ true → memory.byte x ≡ machine.byte x
