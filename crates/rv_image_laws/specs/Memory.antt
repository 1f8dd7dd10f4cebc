-- Memory as an image lays it out, with the stack (System V gABI, "Program Header": segments and
-- their flags).

use Rattle.std.specs.Prelude.{ℕ, ◌+◌, ◌-◌, ◌%◌, ◌/◌, Bool, false, ◌&&◌, ◌||◌, ◌==◌, nat_le, nat_lt, List, length, slice_index, Option, Some, None}
use Rattle.std.specs.List.{find}
use Rattle.rv_isa_laws.specs.Memory.{Mem, Right, Read, Write, Execute}
use Rattle.rv_image_laws.specs.Image.{Image}
use Rattle.rv_image_laws.specs.Segment.{Segment}
use Rattle.rv_isa_laws.specs.Platform.{stack_start, stack_end}

-- the segment of an address
abbrev pub lies_in : Segment → ℕ → Bool
lies_in s a = nat_le s.address a && nat_lt a (s.address + length s.bytes)

abbrev pub segment_at : List Segment → ℕ → Option Segment
segment_at segments a = find (λ s. lies_in s a) segments

-- the byte of an address in its segment; 0 where there is none, as in the stack
abbrev pub byte_in : Option Segment → ℕ → ℕ
byte_in None a = 0
byte_in (Some s) a = slice_index s.bytes (a - s.address)

-- PF_X is 1, PF_W is 2, PF_R is 4
abbrev pub gives_right : ℕ → Right → Bool
gives_right flags Execute = flags % 2 == 1
gives_right flags Write = flags / 2 % 2 == 1
gives_right flags Read = flags / 4 % 2 == 1

abbrev pub right_in : Option Segment → Right → Bool
right_in None right = false
right_in (Some s) right = gives_right s.flags right

-- the stack can be read and written
abbrev pub in_stack : ℕ → Right → Bool
in_stack a Execute = false
in_stack a Write = nat_le stack_start a && nat_lt a stack_end
in_stack a Read = nat_le stack_start a && nat_lt a stack_end

abbrev pub mem_of : Image → Mem
mem_of image = record {
  byte = λ a. byte_in (segment_at image.segments a) a;
  has = λ a right. right_in (segment_at image.segments a) right || in_stack a right;
}
