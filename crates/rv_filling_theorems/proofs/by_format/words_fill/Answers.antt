use Rattle.rv_filling_theorems.proofs.FormatsLemmas.{branches, jumps, uppers, immediates, stores, calls}
use Rattle.rv_filling_theorems.proofs.by_format.words_fill.Goals as goal

-- src/by_format.rt:17:1
pub returns-clause-branches : goal.returns-clause-branches
returns-clause-branches c = branches

pub returns-clause-jumps : goal.returns-clause-jumps
returns-clause-jumps c = jumps

pub returns-clause-uppers : goal.returns-clause-uppers
returns-clause-uppers c = uppers

pub returns-clause-immediates : goal.returns-clause-immediates
returns-clause-immediates c = immediates

pub returns-clause-stores : goal.returns-clause-stores
returns-clause-stores c = stores

pub returns-clause-calls : goal.returns-clause-calls
returns-clause-calls c = calls
