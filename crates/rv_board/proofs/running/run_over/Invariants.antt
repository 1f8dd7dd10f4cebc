use Rattle.std.proofs.Common.{◌≡◌, false, ℕ, List, []}
use Rattle.std.specs.Io.KnownBytes.{Appends}
use Rattle.rv_isa_laws.specs.Word.{Spells}
use Rattle.rv_parcel.specs.Parcel.{StandsFor}
use Rattle.rv_isa_laws.specs.Reader.{Reader}
use Rattle.rv_memory.specs.HeldPages.{held_pages}
use Rattle.rv_machine.specs.Hart.{hart_of}
use Rattle.rv_machine.specs.StreamSteps.{input_left, HasRead}
use Rattle.rv_board.proofs.RunningLemmas.{SoFar}
use Rattle.rv_board.proofs.running.run_over.Given as goal

-- what was read and written so far, and behind it what is left of the run, give the whole, whatever may follow; no stream
-- has failed
abbrev pub invariant-loop-remaining : goal.invariant-loop-remaining
invariant-loop-remaining g l = record {
  so_far : (read written : List ℕ)
      × HasRead (input_left l.fn.machine.intake.ended (g.R.GuestIn.ends l.fn.reader) (g.R.GuestIn.remaining l.fn.reader)) (input_left l.machine.intake.ended (g.R.GuestIn.ends l.reader) (g.R.GuestIn.remaining l.reader)) read
      × Appends (g.W.GuestOut.written l.fn.writer) (g.W.GuestOut.written l.writer) written
      × ((r : Reader Spells StandsFor) → SoFar r l.limit l.remaining (λ input. hart_of l.fn.machine.hart input []) (held_pages l.fn.machine.memory) l.machine.hart (held_pages l.machine.memory) (l.machine.intake.ended ≡ false) read written);
  reader : g.R.GuestIn.in_failed l.reader ≡ g.R.GuestIn.in_failed l.fn.reader;
  writer : g.W.GuestOut.out_failed l.writer ≡ g.W.GuestOut.out_failed l.fn.writer;
}

abbrev pub decreases-loop-remaining : goal.decreases-loop-remaining
decreases-loop-remaining g l = l.remaining
