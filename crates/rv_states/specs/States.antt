-- What a replay has of the states of its run.

use Rattle.std.specs.Prelude.{ℕ, drop}
use Rattle.rv_image.specs.Views.{image_of}
use Rattle.rv_image_laws.specs.Memory.{mem_of}
use Rattle.rv_memory.specs.HeldPages.{held_pages}
use Rattle.rv_states.specs.declared.replay.Replay.{Replay}
use Rattle.rv_states.specs.Replayed.{IsStateAt}

-- its machine is in the state after at most so many instructions
abbrev pub IsAfter : Replay → ℕ → Type 0
IsAfter replay n =
    IsStateAt (mem_of (image_of replay.image)) replay.image.entry replay.input.items n
    replay.machine.hart (held_pages replay.machine.memory) replay.machine.intake.ended
    (drop replay.taken replay.input.items)

-- in the state after its count of instructions
abbrev pub IsReplayed : Replay → Type 0
IsReplayed replay = IsAfter replay replay.count
