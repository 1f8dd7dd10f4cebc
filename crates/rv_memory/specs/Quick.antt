-- Where accesses look before they search, and what a memory of pages knows of its segments.

use Rattle.std.specs.Prelude.{◌≡◌, ℕ, ◌+◌, ◌*◌, ◌%◌, ◌^◌, ◌<◌, ◌≤◌, ◌==◌, true, false, if◌then◌else◌, List}
use Rattle.rv_isa_laws.specs.Memory.{Right, Read, Write, Execute}
use Rattle.rv_image_laws.specs.Segment.{Segment}
use Rattle.rv_memory.specs.Flat.{memory_of}
use Rattle.rv_memory.specs.Rights.{IsWidth}
use Rattle.rv_memory.specs.Stretches.{IsStretch}
use Rattle.rv_memory.specs.Pages.{AreBehind, AreListed}
use Rattle.rv_memory.specs.declared.page.Page.{Page}
use Rattle.rv_memory.specs.declared.stretch.Near.{Near}
use Rattle.rv_memory.specs.declared.stretch.Nears.{Nears}

-- how many addresses an access of so many bytes can begin at
abbrev pub room_of : Near → ℕ → ℕ
room_of near bytes =
    if bytes == 1 then near.room_1 else if bytes == 2 then near.room_2
    else if bytes == 4 then near.room_4 else near.room_8

-- from each of these as many bytes lie in the segment at index i, which gives the right
abbrev pub IsQuick : List Segment → ℕ → Near → Right → Type 0
IsQuick segments i near right =
    (bytes : ℕ) → IsWidth bytes →
    IsStretch segments i near.start (room_of near bytes) bytes right

-- the byte so far behind an address may not be executed
abbrev pub IsEnd : List Segment → ℕ → ℕ → Type 0
IsEnd segments start bytes =
    0 < bytes → (memory_of segments).has ((start + bytes) % 2 ^ 64) Execute ≡ false

-- what is near to code, on both sides to be read and to be written, and below these to be read, is right, and so is where
-- code ends
pub record AreNear (segments : List Segment) (nears : Nears) : Type 0 where
  pub code_executes : IsQuick segments 0 nears.code Execute
  pub code_ends : IsEnd segments nears.code.start nears.code_bytes
  pub low_reads : IsQuick segments nears.low.segment nears.low Read
  pub low_writes : IsQuick segments nears.low_written.segment nears.low_written Write
  pub high_reads : IsQuick segments nears.high.segment nears.high Read
  pub high_writes : IsQuick segments nears.high_written.segment nears.high_written Write
  pub below_reads : IsQuick segments nears.below.segment nears.below Read

-- the segments but the first are in order, and are found by these pages and by what is near
pub record AreKnown (segments : List Segment) (list : List Page) (nears : Nears) : Type 0 where
  pub behind : AreBehind segments
  pub listed : AreListed segments list
  pub near : AreNear segments nears
