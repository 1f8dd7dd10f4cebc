-- A state of a run as bytes. It begins with 37 numbers of 8 bytes, the lowest byte first:
--
--   31  x1 to x31
--    1  pc
--    3  the reservation: 1 where there is one and else 0, its address, its width in bytes
--    1  how many bytes of the input were taken
--    1  how many pieces of memory follow
--
-- A piece is its address and its length, numbers of 8 bytes, and its bytes. No bytes at all are the
-- state at the start.

use Rattle.std.specs.Prelude.{ℕ, zero, suc, Bool, ◌&&◌, ◌||◌, not, if◌then◌else◌, nat_le, List, [], ◌∷◌, length, take, drop, slice_index, Option, Some, None, option_map}
use Rattle.std.specs.List.{list_all}
use Rattle.byteorder.specs.Endian.{little_number}
use Rattle.rv_isa_laws.specs.Memory.{Mem, Read, Write, may, with_bytes}
use Rattle.rv_isa_laws.specs.Hart.{Hart, Reservation, start}
use Rattle.rv_image_laws.specs.Image.{Image}
use Rattle.rv_image_laws.specs.Segment.{Segment}
use Rattle.rv_image_laws.specs.Memory.{mem_of, gives_right}

-- the first n numbers of 8 bytes
unfoldable pub words : ℕ → List ℕ → List ℕ
words zero bytes = []
words (suc n) bytes = little_number 8 bytes ∷ words n (drop 8 bytes)

abbrev pub reservation_by : (is_there address width : ℕ) → Option Reservation
reservation_by zero address width = None
reservation_by (suc n) address width = Some (record { address = address; bytes = width })

-- the hart that the numbers of a head say, with what is left of the input; nothing of the console
-- is kept
abbrev pub hart_by : (numbers input : List ℕ) → Hart
hart_by numbers input = record {
  registers = 0 ∷ take 31 numbers;
  pc = slice_index numbers 31;
  reservation = reservation_by (slice_index numbers 32) (slice_index numbers 33)
      (slice_index numbers 34);
  input = drop (slice_index numbers 35) input;
  console = [];
}

-- a memory with so many pieces put into it; none where one is cut, or may not be written, or where
-- bytes are left behind the last
unfoldable pub with_pieces : ℕ → List ℕ → Mem → Option Mem
with_pieces zero [] m = Some m
with_pieces zero (b ∷ bytes) m = None
with_pieces (suc n) bytes m =
    let address = little_number 8 bytes in
    let count = little_number 8 (drop 8 bytes) in
    let behind = drop 16 bytes in
    if nat_le 16 (length bytes) && nat_le count (length behind) && may m address count Write
    then with_pieces n (drop count behind) (with_bytes m address (take count behind))
    else None

-- the state that a head and pieces say; none where more of the input was taken than there is
abbrev pub state_by : Image → (numbers pieces input : List ℕ) → Option (Hart × Mem)
state_by image numbers pieces input =
    if nat_le (slice_index numbers 35) (length input)
    then option_map (λ memory. (hart_by numbers input, memory))
    (with_pieces (slice_index numbers 36) pieces (mem_of image))
    else None

-- the state, of a run of the image with this input; none where the bytes are no snapshot of one
abbrev pub state_in : Image → (input snapshot : List ℕ) → Option (Hart × Mem)
state_in image input [] = Some (start image.entry input, mem_of image)
state_in image input (b ∷ bytes) =
    let snapshot = b ∷ bytes in
    if nat_le 296 (length snapshot)
    then state_by image (words 37 snapshot) (drop 296 snapshot) input
    else None

-- what may be written can be read (gABI, segment flags)
abbrev pub is_readable : Segment → Bool
is_readable s = not (gives_right s.flags Write) || gives_right s.flags Read

-- whether each state of a run of the image has a snapshot
abbrev pub has_snapshots : Image → Bool
has_snapshots image = list_all is_readable image.segments
