use Rattle.rv_filling_theorems.proofs.RowsLemmas.{named_closed}
use Rattle.rv_filling_theorems.proofs.laws.named_code_is_closed.Goals as goal

pub returns : goal.returns
returns c = named_closed
