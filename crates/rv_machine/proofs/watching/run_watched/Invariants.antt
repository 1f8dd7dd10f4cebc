use Rattle.std.proofs.Common.{◌≡◌, ◌+◌, false, ℕ, List, [], ◌++◌}
use Rattle.std.specs.Io.KnownBytes.{Appends}
use Rattle.rv_isa_laws.specs.Word.{Spells}
use Rattle.rv_parcel.specs.Parcel.{StandsFor}
use Rattle.rv_isa_laws.specs.Reader.{Reader}
use Rattle.rv_isa_laws.specs.Run.{run}
use Rattle.rv_memory.specs.HeldPages.{held_pages}
use Rattle.rv_machine.specs.Hart.{hart_of}
use Rattle.rv_machine.specs.LastState.{last_state}
use Rattle.rv_machine.specs.StreamSteps.{input_left, HasRead}
use Rattle.rv_event_laws.specs.Event.{Event}
use Rattle.rv_machine.proofs.EventLemmas.{Telling}
use Rattle.rv_machine.proofs.StreamLemmas.{Continues, Reaches}
use Rattle.rv_machine.proofs.watching.run_watched.Given as goal

-- what was read, written and told so far; what is left of the run gives the whole, its last state and its events, and the steps so far leave what is here, whatever may follow; no stream has failed
abbrev pub invariant-loop-remaining : goal.invariant-loop-remaining
invariant-loop-remaining g l = record {
  so_far : (read written : List ℕ)
      × HasRead (input_left l.fn.machine.intake.ended (g.R.GuestIn.ends l.fn.reader) (g.R.GuestIn.remaining l.fn.reader)) (input_left l.machine.intake.ended (g.R.GuestIn.ends l.reader) (g.R.GuestIn.remaining l.reader)) read
      × Appends (g.W.GuestOut.written l.fn.writer) (g.W.GuestOut.written l.writer) written
      × ((r : Reader Spells StandsFor) → Continues (run r) l.limit l.remaining (λ input. hart_of l.fn.machine.hart input []) (held_pages l.fn.machine.memory) l.machine.hart (held_pages l.machine.memory) (l.machine.intake.ended ≡ false) read written
      × Continues (last_state r) l.limit l.remaining (λ input. hart_of l.fn.machine.hart input []) (held_pages l.fn.machine.memory) l.machine.hart (held_pages l.machine.memory) (l.machine.intake.ended ≡ false) read written)
      × (told : List Event)
      × ((past : List Event) → g.T.Watcher.has_seen l.fn.watcher past → g.T.Watcher.has_seen l.watcher (past ++ told))
      × ((r : Reader Spells StandsFor) → Telling r told l.limit l.remaining (λ input. hart_of l.fn.machine.hart input []) (held_pages l.fn.machine.memory) l.machine.hart (held_pages l.machine.memory) (l.machine.intake.ended ≡ false) read written)
      × (steps : ℕ) × (steps + l.remaining ≡ l.limit)
      × ((r : Reader Spells StandsFor) → Reaches r steps (λ input. hart_of l.fn.machine.hart input []) (held_pages l.fn.machine.memory) l.machine.hart (held_pages l.machine.memory) (l.machine.intake.ended ≡ false) read written);
  reader : g.R.GuestIn.in_failed l.reader ≡ g.R.GuestIn.in_failed l.fn.reader;
  writer : g.W.GuestOut.out_failed l.writer ≡ g.W.GuestOut.out_failed l.fn.writer;
}

abbrev pub decreases-loop-remaining : goal.decreases-loop-remaining
decreases-loop-remaining g l = l.remaining
