use Rattle.rv_filling_theorems.proofs.OneLemmas.{open_filled, call_filled}
use Rattle.rv_filling_theorems.proofs.laws.open_fields_fill.Goals as goal

pub returns-clause-alone : goal.returns-clause-alone
returns-clause-alone c = open_filled

pub returns-clause-calls : goal.returns-clause-calls
returns-clause-calls c = λ named. call_filled
