use Rattle.rv_library.proofs.running.rv_run.Goals as goal

pub returns : goal.returns
returns c = (c.ran-found.result, c.ran-found.ensures, c.give_outcome.ensures)
