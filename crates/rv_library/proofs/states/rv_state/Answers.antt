use Rattle.rv_library.proofs.states.rv_state.Goals as goal

pub returns : goal.returns
returns c = (c.run_to-found.result, c.run_to-found.ensures, c.give_state.ensures)
