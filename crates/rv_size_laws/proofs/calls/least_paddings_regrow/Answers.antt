use Rattle.rv_size_laws.proofs.RegrowingLemmas.{padded_regrows}
use Rattle.rv_size_laws.proofs.calls.least_paddings_regrow.Goals as goal

pub returns : goal.returns
returns c = padded_regrows
