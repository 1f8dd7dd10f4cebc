-- The events of the code as those of the definitions.

use Rattle.std.specs.Prelude.{◌≡◌, ℕ, Bool, true, false, List, Option, Some, None, Result, Ok, Err}
use Rattle.rv_isa_laws.specs.Memory.{Mem, bytes_at}
use Rattle.rv_isa_laws.specs.Hart as laws
use Rattle.rv_isa_laws.specs.Effect.{Effect, Next, On, Over}
use Rattle.rv_isa_laws.specs.Run.{Fetched}
use Rattle.rv_machine.specs.declared.end.End.{End}
use Rattle.rv_machine.specs.declared.event.Accesses.{Accesses}
use Rattle.rv_machine.specs.declared.event.Event.{Event}
use Rattle.rv_machine.specs.declared.event.Moved.{Moved}
use Rattle.rv_machine.specs.declared.event.Span.{Span}
use Rattle.rv_machine.specs.declared.event.Step.{Step}
use Rattle.rv_machine.specs.declared.event.Stepped.{Stepped}
use Rattle.rv_machine.specs.declared.event.Stepped.TheVariants.{Went, Ended}
use Rattle.rv_event_laws.specs.Event as definitions
use Rattle.rv_event_laws.specs.declared.access.Setting.{Setting}
use Rattle.rv_event_laws.specs.Event.{read_by, stored_by, set_to, sets}
use Rattle.rv_machine.specs.End.{law_end}
use Rattle.rv_machine.specs.Fetch.{fetched_of}
use Rattle.rv_machine.specs.Hart.{hart_of}
use Rattle.rv_machine.specs.Registers.{register_value}
use Rattle.rv_machine.specs.declared.hart.Hart.{Hart}

abbrev pub end_of : Option End → Option laws.End
end_of None = None
end_of (Some e) = Some (law_end e)

abbrev pub in_span : Mem → Span → List ℕ
in_span m span = bytes_at m span.address span.count

-- the bytes that a call moved stand in the memory after it
abbrev pub event_as : Event → Mem → definitions.Event
event_as e m =
    record {
      pc = e.pc;
      fetched = fetched_of e.fetched;
      read = e.read;
      stored = e.stored;
      set = e.set;
      taken = in_span m e.taken;
      put = in_span m e.put;
      «end» = end_of e.end;
    }

-- a register with its value after a step; an end sets none
abbrev pub set_of : Option End → ℕ → Hart → Option Setting
set_of None register hart = set_to register (register_value hart.registers register)
set_of (Some e) register hart = None

-- a step as an event: what stood at its address, and hart and memory after it, tell the rest
abbrev pub event_by : Fetched → Step → Hart → Mem → definitions.Event
event_by f s hart m =
    record {
      pc = s.look.pc;
      fetched = f;
      read = s.accesses.read;
      stored = s.accesses.stored;
      set = set_of s.«end» (sets f) hart;
      taken = in_span m s.moved.taken;
      put = in_span m s.moved.put;
      «end» = end_of s.«end»;
    }

-- these are what the effect reads and writes, if the step goes on
abbrev pub AreSeen : Next → Effect → Mem → Accesses → Type 0
AreSeen (On h' m') effect m seen =
    (seen.read ≡ read_by effect m) × (seen.stored ≡ stored_by effect m)
AreSeen (Over e) effect m seen = Unit {0}

abbrev pub no_accesses : Accesses
no_accesses = record { read = None; stored = None }

abbrev pub nothing_moved : Moved
nothing_moved =
    let none : Span = record { address = 0; count = 0 } in
    record { taken = none; put = none }

-- a step that comes to this was done from this hart and memory m, which are hart' and m' by now, by
-- this input and console, and this is what it read and wrote; or it was not, and nothing has changed
abbrev pub IsSeen : Bool → Accesses → Next → Effect → Hart → Mem → Hart → Mem → List ℕ → List ℕ →
    Type 0
IsSeen true seen next effect hart m hart' m' input console =
    (next ≡ On (hart_of hart' input console) m') × AreSeen next effect m seen
IsSeen false seen next effect hart m hart' m' input console = (hart' ≡ hart) × (m' ≡ m)

-- how a step ended the run, if it did
abbrev pub ended_in : {E : Type 0} → Result Stepped E → Result (Option End) E
ended_in (Ok (Went accesses moved)) = Ok None
ended_in (Ok (Ended e)) = Ok (Some e)
ended_in (Err e) = Err e

-- the bytes that a step moved stand there in the memory after it
abbrev pub AreMoved : Moved → List ℕ → List ℕ → Mem → Type 0
AreMoved moved read written m = (in_span m moved.taken ≡ read) × (in_span m moved.put ≡ written)

abbrev pub HasMoved : {E : Type 0} → Result Stepped E → List ℕ → List ℕ → Mem → Type 0
HasMoved (Ok (Went accesses moved)) read written m = AreMoved moved read written m
HasMoved (Ok (Ended e)) read written m = Unit {0}
HasMoved (Err e) read written m = Unit {0}

-- the same of a step that went on, where these bytes were moved, and this read and written
abbrev pub HasMovedIn : {E : Type 0} → Result (Option End) E → Moved → List ℕ → List ℕ → Mem →
    Type 0
HasMovedIn (Ok None) moved read written m = AreMoved moved read written m
HasMovedIn (Ok (Some e)) moved read written m = Unit {0}
HasMovedIn (Err e) moved read written m = Unit {0}

abbrev pub HasSeenIn : {E : Type 0} → Result (Option End) E → Accesses → Next → Effect → Mem →
    Type 0
HasSeenIn (Ok None) seen next effect m = AreSeen next effect m seen
HasSeenIn (Ok (Some e)) seen next effect m = Unit {0}
HasSeenIn (Err e) seen next effect m = Unit {0}

-- what a step read and wrote, if it went on
abbrev pub HasSeen : {E : Type 0} → Result Stepped E → Next → Effect → Mem → Type 0
HasSeen (Ok (Went accesses moved)) next effect m = AreSeen next effect m accesses
HasSeen (Ok (Ended e)) next effect m = Unit {0}
HasSeen (Err e) next effect m = Unit {0}
