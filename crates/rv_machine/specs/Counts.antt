-- How many instructions a run takes, and what a run over streams comes to with their count.

use Rattle.std.specs.Prelude.{◌≡◌, ℕ, ◌-◌, List, length, Result, Ok, Err, OnOk}
use Rattle.rv_isa.specs.declared.instruction.Inst.{Inst}
use Rattle.rv_isa_laws.specs.Word.{Spells}
use Rattle.rv_parcel.specs.Parcel.{StandsFor}
use Rattle.rv_isa_laws.specs.Memory.{Mem}
use Rattle.rv_isa_laws.specs.Hart as laws
use Rattle.rv_isa_laws.specs.Reader.{Reader}
use Rattle.rv_isa_laws.specs.Run.{run}
use Rattle.rv_event_laws.specs.Event.{events}
use Rattle.rv_machine.specs.declared.running.Ran.{Ran}
use Rattle.rv_machine.specs.declared.running.RunFault.{RunFault}
use Rattle.rv_machine.specs.LastState.{last_state}
use Rattle.rv_machine.specs.Streams.{Accords}

-- the instructions of at most n steps from here, each of which has its event; one that ends the run
-- is the last
abbrev pub run_length : {Spells StandsFor : ℕ → Inst → Type 0} → Reader Spells StandsFor → ℕ →
    laws.Hart → Mem → ℕ
run_length reader n h m = length (events reader n h m)

-- how many of the n are left after them
abbrev pub left_over : {Spells StandsFor : ℕ → Inst → Type 0} → Reader Spells StandsFor → ℕ →
    laws.Hart → Mem → ℕ
left_over reader n h m = n - run_length reader n h m

-- what a run has written, its end and its count, beside the outcome of a machine with all its input
-- and beside how many instructions that takes: the same; where a stream failed, the beginning
abbrev pub AccordsIn : Result Ran RunFault → List ℕ → laws.Outcome → ℕ → Type 0
AccordsIn (Ok ran) written outcome count =
    Accords (Ok ran.«end») written outcome × (ran.count ≡ count)
AccordsIn (Err fault) written outcome count = Accords (Err fault) written outcome

-- the same beside the run of at most `limit` steps from hart h and memory m, which leaves this
-- state; where a stream failed, nothing is said of the state
abbrev pub RunsTo : Result Ran RunFault → List ℕ → laws.Hart × Mem → Reader Spells StandsFor → ℕ →
    laws.Hart → Mem → Type 0
RunsTo result written state reader limit h m =
    AccordsIn result written (run reader limit h m) (run_length reader limit h m)
    × OnOk result (last_state reader limit h m ≡ state)
