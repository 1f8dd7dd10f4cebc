-- The state that a machine of the code is in.

use Rattle.std.specs.Prelude.{List, ℕ, [], drop, Option, Some, None}
use Rattle.rv_isa_laws.specs.Memory.{Mem}
use Rattle.rv_isa_laws.specs.Hart as laws
use Rattle.rv_machine.specs.Hart.{hart_of}
use Rattle.rv_memory.specs.HeldPages.{held_pages}
use Rattle.rv_states.specs.declared.snapshot_reading.Resumed.{Resumed}

-- of what was resumed, with what is left of the input
abbrev pub resumed_state : Option Resumed → (input : List ℕ) → Option (laws.Hart × Mem)
resumed_state None input = None
resumed_state (Some r) input =
    Some (hart_of r.machine.hart (drop r.taken input) [], held_pages r.machine.memory)
