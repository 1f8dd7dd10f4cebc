-- Runs that go on from a kept state, and how what they reach is given to the caller.

use Rattle.std.specs.Prelude.{◌≡◌, ◌⊎◌, ℕ, false, ◌&&◌, List, [], length, Option, Some, None, Result, Ok, Err}
use Rattle.rv_isa_laws.specs.Word.{Spells}
use Rattle.rv_parcel.specs.Parcel.{StandsFor}
use Rattle.rv_isa_laws.specs.Hart.{Hart}
use Rattle.rv_isa_laws.specs.Memory.{Mem}
use Rattle.rv_isa_laws.specs.Reader.{Reader}
use Rattle.rv_image_laws.specs.Image.{Image}
use Rattle.rv_memory.specs.HeldPages.{held_pages}
use Rattle.rv_machine.specs.End.{law_end}
use Rattle.rv_machine.specs.Hart.{hart_of}
use Rattle.rv_states.specs.Snapshot.{state_in, has_snapshots}
use Rattle.rv_library.specs.declared.answers.Answer.{Answer}
use Rattle.rv_library.specs.declared.ends.Ended.{Ended}
use Rattle.rv_library.specs.declared.resuming.Resumption.{Resumption}
use Rattle.rv_library.specs.declared.runs.Stop.{Stop}
use Rattle.rv_library.specs.declared.states.State.{State}
use Rattle.rv_library.specs.Answer.{answer_of}
use Rattle.rv_library.specs.Given.{have_room, put_in, room_status}
use Rattle.rv_library.specs.GivenRuns.{IsShown, IsStopGiven}
use Rattle.rv_library.specs.Ran.{IsImageIn, IsStateLeft, IsStop}

-- at most `steps` steps from a hart and a memory were made, and what is kept is the state that they
-- left, with the input that was left then
pub record IsResumption (image : Image) (input : List ℕ) (hart : Hart) (memory : Mem) (steps : ℕ)
    (r : Resumption) : Type 0 where
  pub left : List ℕ
  pub reached :
      (reader : Reader Spells StandsFor) →
      IsStateLeft reader hart memory steps
      (hart_of r.reached.machine.hart left r.reached.console.items)
      (held_pages r.reached.machine.memory) (law_end r.reached.«end») r.reached.count
  pub kept :
      state_in image input r.kept.items
      ≡ Some (hart_of r.reached.machine.hart left [], held_pages r.reached.machine.memory)

-- what comes of the state of an image's run; nothing only where some of its states have no snapshot
abbrev pub IsResumedFrom : Image → (input : List ℕ) → Hart → Mem → (steps : ℕ) →
    Option Resumption → Type 0
IsResumedFrom image input hart memory steps (Some r) =
    IsResumption image input hart memory steps r
IsResumedFrom image input hart memory steps None = has_snapshots image ≡ false

-- what comes of bytes that are a state of the file's run with this input; nothing where they are
-- none, or a state would have no snapshot
abbrev pub IsResumed : (file input from : List ℕ) → (steps : ℕ) → Result (Option Resumption) Stop →
    Type 0
IsResumed file input from steps (Ok (Some r)) =
    (image : Image) × IsImageIn file image × ((hart : Hart) × ((memory : Mem)
    × (state_in image input from ≡ Some (hart, memory))
    × IsResumption image input hart memory steps r))
IsResumed file input from steps (Ok None) =
    (image : Image) × IsImageIn file image
    × ((state_in image input from ≡ None) ⊎ (has_snapshots image ≡ false))
IsResumed file input from steps (Err stop) = IsStop file stop

-- the machine is shown, and its console and its state are given; RV_UNFIT where there is none
abbrev pub IsResumptionGiven : Result (Option Resumption) Stop → (address status : ℕ) →
    (memory memory' rights rights' console console' kept kept' : List ℕ) → State → Ended →
    Answer → Type 0
IsResumptionGiven (Ok (Some r)) address status memory memory' rights rights' console console' kept
    kept' state e answer =
    IsShown r.reached address memory memory' rights rights' state e
    × (status
    ≡ room_status (have_room r.reached.console.items console && have_room r.kept.items kept))
    × (console' ≡ put_in r.reached.console.items console)
    × (kept' ≡ put_in r.kept.items kept)
    × (answer ≡ answer_of (length r.reached.console.items) (length r.kept.items))
IsResumptionGiven (Ok None) address status memory memory' rights rights' console console' kept
    kept' state e answer =
    (status ≡ 4) × (console' ≡ console) × (kept' ≡ kept) × (answer ≡ answer_of 0 0)
IsResumptionGiven (Err stop) address status memory memory' rights rights' console console' kept
    kept' state e answer =
    IsStopGiven stop status console console' answer × (kept' ≡ kept)

-- the state of a file's run is given that at most `steps` instructions leave of a kept one
abbrev pub GivesResumed : (file input from : List ℕ) → (steps address status : ℕ) →
    (memory memory' rights rights' console console' kept kept' : List ℕ) → State → Ended →
    Answer → Type 0
GivesResumed file input from steps address status memory memory' rights rights' console console'
    kept kept' state e answer =
    (found : Result (Option Resumption) Stop) × IsResumed file input from steps found
    × IsResumptionGiven found address status memory memory' rights rights' console console' kept
    kept' state e answer
