-- What a watched run comes to beside the run of the definitions.

use Rattle.std.specs.Prelude.{◌≡◌, ℕ, ◌≤◌, Bool, true, List, ◌++◌, Result, Ok, Err, ⊤}
use Rattle.rv_isa_laws.specs.Word.{Spells}
use Rattle.rv_parcel.specs.Parcel.{StandsFor}
use Rattle.rv_isa_laws.specs.Memory.{Mem}
use Rattle.rv_isa_laws.specs.Hart as laws
use Rattle.rv_isa_laws.specs.Console.{IsFront}
use Rattle.rv_isa_laws.specs.Reader.{Reader}
use Rattle.rv_isa_laws.specs.Run.{run}
use Rattle.rv_event_laws.specs.Event.{Event, events}
use Rattle.rv_machine.specs.declared.end.End.{End}
use Rattle.rv_machine.specs.declared.running.RunFault.TheVariants.{InputFault, OutputFault, OutOfMemory}
use Rattle.rv_machine.specs.declared.watching.WatchFault.{WatchFault}
use Rattle.rv_machine.specs.declared.watching.WatchFault.TheVariants.{Run, Watcher}
use Rattle.rv_machine.specs.End.{law_end}
use Rattle.rv_machine.specs.LastState.{last_state}

-- the events that come first of all
pub record Begins (front all : List Event) : Type 0 where
  pub rest : List Event
  pub joined : front ++ rest ≡ all

-- what a run wrote, told and left, of at most `limit` steps from hart h and memory m: at its end
-- all of the console, all of its events, and its last state; where a stream failed, the beginning
-- of the console and of the events; where the watcher stopped it, the same, and what some of the
-- steps leave
abbrev pub Shows : Result End WatchFault → List ℕ → List Event → laws.Hart × Mem →
    Reader Spells StandsFor → ℕ → laws.Hart → Mem → Type 0
Shows (Ok e) written told state reader limit h m =
    (run reader limit h m ≡ record { console = written; «end» = law_end e })
    × (last_state reader limit h m ≡ state) × (events reader limit h m ≡ told)
Shows (Err (Run _)) written told state reader limit h m =
    IsFront written (run reader limit h m).console × Begins told (events reader limit h m)
Shows (Err (Watcher _)) written told state reader limit h m =
    IsFront written (run reader limit h m).console × Begins told (events reader limit h m)
    × ((steps : ℕ) × (steps ≤ limit) × (last_state reader steps h m ≡ state))

-- what a watcher has seen, unless it failed itself
abbrev pub Unfailed : Result End WatchFault → Type 0 → Type 0
Unfailed (Ok _) seen = seen
Unfailed (Err (Run _)) seen = seen
Unfailed (Err (Watcher _)) seen = ⊤

-- which streams have failed after it: the reader exactly at InputFault, the writer exactly at
-- OutputFault, where they had not before; such a run takes no memory
abbrev pub FailsIn : Result End WatchFault → Bool → Bool → Bool → Bool → Type 0
FailsIn (Ok _) r w r' w' = (r' ≡ r) × (w' ≡ w)
FailsIn (Err (Run InputFault)) r w r' w' = (r' ≡ true) × (w' ≡ w)
FailsIn (Err (Run OutputFault)) r w r' w' = (r' ≡ r) × (w' ≡ true)
FailsIn (Err (Run OutOfMemory)) r w r' w' = ⊥
FailsIn (Err (Watcher _)) r w r' w' = (r' ≡ r) × (w' ≡ w)
