use Rattle.rv_board_laws.proofs.BesideLemmas.{on_step}
use Rattle.rv_board_laws.proofs.laws.step_goes_on.Goals as goal

pub returns : goal.returns
returns c d reader h g m n is = on_step d reader h m g n is
