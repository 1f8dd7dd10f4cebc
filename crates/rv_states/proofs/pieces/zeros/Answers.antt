use Rattle.rv_states.proofs.ImageLemmas.{all_zero}
use Rattle.rv_states.proofs.pieces.zeros.Goals as goal

pub returns : goal.returns
returns c = all_zero 4096
