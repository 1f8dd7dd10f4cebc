-- States of a run that are kept.

use Rattle.std.specs.Prelude.{◌≤◌, ◌+◌, ◌-◌, ◌*◌, ◌^◌, ℕ, List, length, drop, map}
use Rattle.std.specs.List.{All}
use Rattle.rv_isa_laws.specs.Memory.{Mem}
use Rattle.rv_isa_laws.specs.Platform.{stack_start, stack_end}
use Rattle.rv_image.specs.declared.image.Image.{Image}
use Rattle.rv_image.specs.SegmentView.{segment_of}
use Rattle.rv_image_laws.specs.Segment.{memory_size}
use Rattle.rv_memory.specs.HeldPages.{held_pages}
use Rattle.rv_states.specs.declared.kept.Kept.{Kept}
use Rattle.rv_states.specs.Replayed.{IsStateAt}

-- it is the state of the run of this memory from this entry after its count of instructions
abbrev pub IsOfRun : Mem → ℕ → List ℕ → Kept → Type 0
IsOfRun m entry input kept =
    (kept.taken ≤ length input)
    × IsStateAt m entry input kept.count kept.machine.hart (held_pages kept.machine.memory)
    kept.machine.intake.ended (drop kept.taken input)

-- of whatever run the old ones are states, the new ones are too
abbrev pub AreOfSameRuns : List Kept → List Kept → Type 0
AreOfSameRuns old new =
    (m : Mem) (entry : ℕ) (input : List ℕ) →
    All (IsOfRun m entry input) old → All (IsOfRun m entry input) new

-- how many bytes a state of an image's run has: those of the stack and of the segments
abbrev pub state_size : Image → ℕ
state_size image =
    (stack_end - stack_start) + memory_size (map segment_of image.segments.items)

-- at most so many states are kept, and at most so many bytes in all of them
abbrev pub most_states : ℕ
most_states = 32

abbrev pub most_bytes : ℕ
most_bytes = 2 ^ 26

abbrev pub CanBeKept : ℕ → Image → Type 0
CanBeKept n image = (n ≤ most_states) × (n * state_size image ≤ most_bytes)
