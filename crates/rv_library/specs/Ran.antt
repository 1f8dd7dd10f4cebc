-- Runs of executables, and the states that they reach.

use Rattle.std.specs.Prelude.{◌≡◌, ℕ, ◌-◌, ◌^◌, min, List, length, drop, None, Result, Ok, Err, ⊤}
use Rattle.rv_isa_laws.specs.Word.{Spells}
use Rattle.rv_parcel.specs.Parcel.{StandsFor}
use Rattle.rv_isa_laws.specs.Hart as laws
use Rattle.rv_isa_laws.specs.Hart.{start}
use Rattle.rv_isa_laws.specs.Memory.{Mem}
use Rattle.rv_isa_laws.specs.Reader.{Reader}
use Rattle.rv_isa_laws.specs.Run.{run}
use Rattle.rv_event_laws.specs.Event.{events}
use Rattle.rv_image_laws.specs.Image.{Image}
use Rattle.rv_image_laws.specs.ImageOf.{ImageOf}
use Rattle.rv_image_laws.specs.FirstFault.{first_fault}
use Rattle.rv_image_laws.specs.Memory.{mem_of}
use Rattle.rv_memory.specs.HeldPages.{held_pages}
use Rattle.rv_machine.specs.Counts.{run_length}
use Rattle.rv_machine.specs.End.{law_end}
use Rattle.rv_machine.specs.Hart.{hart_of}
use Rattle.rv_machine.specs.LastState.{last_state}
use Rattle.rv_machine.specs.Outcome.{outcome_of}
use Rattle.rv_chain_laws.specs.Running.{RunsFile, RefusesFile}
use Rattle.rv_library.specs.declared.runs.Stop.{Stop}
use Rattle.rv_library.specs.declared.runs.Stop.TheVariants.{Refused, TooLong, Unknown}
use Rattle.rv_library.specs.declared.runs.Counted.{Counted}
use Rattle.rv_library.specs.declared.runs.Reached.{Reached}

-- the file has no fault, and this is its image
abbrev pub IsImageIn : List ℕ → Image → Type 0
IsImageIn file image = (first_fault file ≡ None) × ImageOf file image

-- a file is refused by its first fault alone; memory, or room for the console, may run out
abbrev pub IsStop : List ℕ → Stop → Type 0
IsStop file (Refused fault) = RefusesFile file fault
IsStop file TooLong = ⊤
IsStop file Unknown = ⊤

-- the outcome is that of the machine's run over the file's image, and the count its length
pub record IsCounted (reader : Reader Spells StandsFor) (file input : List ℕ) (limit : ℕ)
    (c : Counted) : Type 0 where
  pub runs : RunsFile reader file input limit (outcome_of c.outcome)
  pub count : c.count ≡ run_length reader limit (start runs.image.entry input) (mem_of runs.image)

abbrev pub IsRan : (file input : List ℕ) → (limit : ℕ) → Result Counted Stop → Type 0
IsRan file input limit (Ok c) =
    (reader : Reader Spells StandsFor) → IsCounted reader file input limit c
IsRan file input limit (Err stop) = IsStop file stop

-- what at most `steps` steps from a hart and a memory leave: the hart, with what these steps wrote,
-- the memory, how the run ended, by `Limit` where it goes on, and how many steps there were
pub record IsStateLeft (reader : Reader Spells StandsFor) (from : laws.Hart) (old : Mem)
    (steps : ℕ) (hart : laws.Hart) (memory : Mem) (e : laws.End) (count : ℕ) : Type 0 where
  pub state : last_state reader steps from old ≡ (hart, memory)
  pub ended : run reader steps from old ≡ record { console = hart.console; «end» = e }
  pub counted : count ≡ min (length (events reader steps from old)) (2 ^ 64 - 1)

-- the machine is in the state after them, where this input was left
abbrev pub IsReachedOn : laws.Hart → Mem → (left : List ℕ) → (steps : ℕ) → Reached → Type 0
IsReachedOn from old left steps r =
    (reader : Reader Spells StandsFor) →
    IsStateLeft reader from old steps
    (hart_of r.machine.hart (drop r.taken left) r.console.items) (held_pages r.machine.memory)
    (law_end r.«end») r.count

-- the same from the start of an image's run
abbrev pub IsReachedFrom : Image → (input : List ℕ) → (steps : ℕ) → Reached → Type 0
IsReachedFrom image input steps r =
    IsReachedOn (start image.entry input) (mem_of image) input steps r

-- the same of the image of a file, which has no fault
abbrev pub IsReached : (file input : List ℕ) → (steps : ℕ) → Result Reached Stop → Type 0
IsReached file input steps (Ok r) =
    (image : Image) × IsImageIn file image × IsReachedFrom image input steps r
IsReached file input steps (Err stop) = IsStop file stop
