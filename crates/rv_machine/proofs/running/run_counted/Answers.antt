use Rattle.std.proofs.Common.{[], ◌++◌, refl, ◌∙◌}
use Rattle.std.proofs.lemmas.Result.{err_from_is_err_and}
use Rattle.rv_machine.specs.StreamSteps.{Input, input_left}
use Rattle.rv_machine.proofs.CountLemmas.{runs_from}
use Rattle.rv_machine.proofs.KnownLemmas.{appends_kept, consumes_kept, follows_ends}
use Rattle.rv_machine.proofs.running.run_counted.Goals as goal
use Rattle.std.proofs.KnownBytes.{Keeps-refl}

pub returns-in_err-memory-clause-runs : goal.returns-in_err-memory-clause-runs
returns-in_err-memory-clause-runs g c =
    let found = err_from_is_err_and c.from_residual.result c.from_residual.ensures.1 in
    rw found.1
    ([], [], consumes_kept _ _ (Keeps-refl _), appends_kept _ _ (Keeps-refl _), λ r rest may. record { rest = _; joined = refl })

pub returns-clause-runs : goal.returns-clause-runs
returns-clause-runs g c =
    let done = c.run_machine.ensures.runs in
    let first : Input = input_left c.new-machine.result.intake.ended (g.R.GuestIn.ends c.args.reader.now) (g.R.GuestIn.remaining c.args.reader.now) in
    let last : Input = input_left c.run_machine.new.machine.intake.ended (g.R.GuestIn.ends c.run_machine.new.reader) (g.R.GuestIn.remaining c.run_machine.new.reader) in (
      done.0,
      done.1,
      done.2.takes,
      done.3,
      λ r rest may.
          runs_from r _ done.1 _ c.args.limit _ _ _ _ (c.new-machine.ensures.hart (done.0 ++ rest)) (c.new-machine.ensures.memory ∙ c.in_ok-memory.ensures)
          (done.4 r rest (follows_ends first last done.0 rest c.new-machine.ensures.ended done.2 may)),
    )
