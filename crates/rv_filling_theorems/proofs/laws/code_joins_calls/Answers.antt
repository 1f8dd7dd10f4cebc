use Rattle.rv_filling_theorems.proofs.RowsLemmas.{code_calls}
use Rattle.rv_filling_theorems.proofs.laws.code_joins_calls.Goals as goal

pub returns : goal.returns
returns c = code_calls
