use Rattle.std.proofs.Common.{◌≡◌, ◌≤◌, false, ℕ, List, []}
use Rattle.std.specs.Io.KnownBytes.{Appends}
use Rattle.rv_isa_laws.specs.Word.{Spells}
use Rattle.rv_parcel.specs.Parcel.{StandsFor}
use Rattle.rv_isa_laws.specs.Reader.{Reader}
use Rattle.rv_isa_laws.specs.Run.{run}
use Rattle.rv_machine.specs.Counts.{left_over}
use Rattle.rv_memory.specs.HeldPages.{held_pages}
use Rattle.rv_machine.specs.Hart.{hart_of}
use Rattle.rv_machine.specs.LastState.{last_state}
use Rattle.rv_machine.specs.StreamSteps.{input_left, HasRead}
use Rattle.rv_machine.proofs.StreamLemmas.{Continues}
use Rattle.rv_machine.proofs.running.run_machine.Given as goal

-- what was read and written so far; what is left of the run gives the whole, whatever may follow, leaves as many
-- instructions, and ends in the same state; no stream has failed
abbrev pub invariant-loop-remaining : goal.invariant-loop-remaining
invariant-loop-remaining g l = record {
  so_far : (read written : List ℕ)
      × HasRead (input_left l.fn.machine.intake.ended (g.R.GuestIn.ends l.fn.reader) (g.R.GuestIn.remaining l.fn.reader)) (input_left l.machine.intake.ended (g.R.GuestIn.ends l.reader) (g.R.GuestIn.remaining l.reader)) read
      × Appends (g.W.GuestOut.written l.fn.writer) (g.W.GuestOut.written l.writer) written
      × ((r : Reader Spells StandsFor) → Continues (run r) l.limit l.remaining (λ input. hart_of l.fn.machine.hart input []) (held_pages l.fn.machine.memory) l.machine.hart (held_pages l.machine.memory) (l.machine.intake.ended ≡ false) read written
      × Continues (left_over r) l.limit l.remaining (λ input. hart_of l.fn.machine.hart input []) (held_pages l.fn.machine.memory) l.machine.hart (held_pages l.machine.memory) (l.machine.intake.ended ≡ false) read written
      × Continues (last_state r) l.limit l.remaining (λ input. hart_of l.fn.machine.hart input []) (held_pages l.fn.machine.memory) l.machine.hart (held_pages l.machine.memory) (l.machine.intake.ended ≡ false) read written);
  bound : l.remaining ≤ l.limit;
  reader : g.R.GuestIn.in_failed l.reader ≡ g.R.GuestIn.in_failed l.fn.reader;
  writer : g.W.GuestOut.out_failed l.writer ≡ g.W.GuestOut.out_failed l.fn.writer;
}

abbrev pub decreases-loop-remaining : goal.decreases-loop-remaining
decreases-loop-remaining g l = l.remaining
