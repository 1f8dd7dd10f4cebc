-- The source run on a platform. Its steps are those of `source_run`, but that a device answers the loads
-- and stores that memory refuses; where the program has no memory, it finds the platform's.

use Rattle.std.specs.Prelude.{ℕ, zero, suc, ◌-◌, Bool, ◌||◌, nat_le, if◌then◌else◌, List}
use Rattle.rv_isa_laws.specs.Memory.{Mem}
use Rattle.rv_isa_laws.specs.Hart.{Hart, Outcome, Limit, stop}
use Rattle.rv_isa_laws.specs.Effect.{Next, follow}
use Rattle.rv_board_laws.specs.Device.{Device, apply_on}
use Rattle.rv_board_laws.specs.Platform.{Platform, with_beside, start_on}
use Rattle.rv_statement_laws.specs.Statement.{Statement}
use Rattle.rv_map_laws.specs.Map.{Map}
use Rattle.rv_source_laws.specs.Program.{Program, program}
use Rattle.rv_source_laws.specs.Meaning.{meaning}
use Rattle.rv_source_laws.specs.Start.{is_within, is_in, first_memory}
use Rattle.rv_source_laws.specs.SourceRun.{Place, Starts, place, step_at, cost_at}

-- whether a program lies at an address: text, constants, or from the variables to the end of bss
abbrev pub lies_at : Map → ℕ → Bool
lies_at m a = is_in m.text a || is_in m.rodata a || is_within m.data.start m.bss.end a

-- memory at the start: the program's own is that of its regions
abbrev pub first_memory_on : Platform → Program → Mem
first_memory_on q p = with_beside (lies_at p.map) (first_memory p) q

-- the run: `step_at`, `steps` and `source_run` with `apply_on` in place of `apply`
abbrev pub step_at_on : (ℕ → Device) → Program → Place → Hart → Mem → Next
step_at_on d p (Starts site) h m = apply_on d (meaning p site h) m
step_at_on d p here h m = step_at p here h m

abbrev pub steps_on : (ℕ → Device) → ℕ → Program → ℕ → Hart → Mem → Outcome
steps_on d zero p left h m = stop h Limit
steps_on d (suc most) p left h m =
    let here = place p h.pc in
    if nat_le (cost_at p here h) left
    then follow (step_at_on d p here h m) h (steps_on d most p (left - cost_at p here h))
    else stop h Limit

-- the run of the sources at a map on a platform, on an input, within n instructions
abbrev pub source_run_on : Platform → List (List Statement) → Map → List ℕ → ℕ → Outcome
source_run_on q sources map input n =
    let p = program sources map in
    steps_on q.device n p n (start_on q map.entry input) (first_memory_on q p)
