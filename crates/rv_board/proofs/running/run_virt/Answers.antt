use Rattle.std.proofs.Common.{◌≡◌, [], ◌++◌, refl, ap, subst, ◌∙◌}
use Rattle.std.proofs.KnownBytes.{Keeps-refl}
use Rattle.std.proofs.lemmas.Result.{err_from_is_err_and}
use Rattle.rv_image_laws.specs.Memory.{mem_of}
use Rattle.rv_isa_laws.specs.Hart as laws
use Rattle.rv_isa_laws.specs.Memory.{Mem}
use Rattle.rv_memory.specs.HeldPages.{held_pages}
use Rattle.rv_machine.specs.declared.hart.Hart.{Hart}
use Rattle.rv_machine.specs.Hart.{hart_of}
use Rattle.rv_machine.specs.Streams.{Accords}
use Rattle.rv_machine.specs.StreamSteps.{Input, input_left}
use Rattle.rv_board_laws.specs.Device.{run_on}
use Rattle.rv_board_laws.specs.Virt.{virt, board_start}
use Rattle.rv_machine.proofs.KnownLemmas.{appends_kept, consumes_kept, follows_ends}
use Rattle.rv_board.proofs.running.run_virt.Goals as goal

pub returns-in_err-board-clause-runs : goal.returns-in_err-board-clause-runs
returns-in_err-board-clause-runs g c =
    let found = err_from_is_err_and c.from_residual.result c.from_residual.ensures.1 in
    rw found.1
    ([], [], consumes_kept _ _ (Keeps-refl _), appends_kept _ _ (Keeps-refl _), λ r rest may. record { rest = _; joined = refl })

pub returns-clause-runs : goal.returns-clause-runs
returns-clause-runs g c =
    let it = c.run_over.ensures.runs in
    let first : Input = input_left c.from_parts-machine.result.intake.ended (g.R.GuestIn.ends c.args.reader.now) (g.R.GuestIn.remaining c.args.reader.now) in
    let last : Input = input_left c.run_over.new.machine.intake.ended (g.R.GuestIn.ends c.run_over.new.reader) (g.R.GuestIn.remaining c.run_over.new.reader) in
    let memory = c.from_parts-machine.ensures.memory ∙ c.in_ok-memory.ensures ∙ ap mem_of c.in_ok-board.ensures in (
      it.0,
      it.1,
      it.2.takes,
      it.3,
      λ r rest may.
          let hart : hart_of c.from_parts-machine.result.hart (it.0 ++ rest) [] ≡ board_start (it.0 ++ rest) = ap (λ (h : Hart). hart_of h (it.0 ++ rest) []) c.from_parts-machine.ensures.hart ∙ c.hart_at_start.ensures (it.0 ++ rest) in
          subst (λ (o : laws.Outcome). Accords c.run_over.result it.1 o)
          (ap (λ (h : laws.Hart). run_on virt r c.args.limit h (held_pages c.from_parts-machine.result.memory)) hart ∙ ap (λ (m : Mem). run_on virt r c.args.limit (board_start (it.0 ++ rest)) m) memory)
          (it.4 r rest (follows_ends first last it.0 rest c.from_parts-machine.ensures.ended it.2 may)),
    )
