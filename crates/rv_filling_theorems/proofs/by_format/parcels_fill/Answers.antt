use Rattle.rv_filling_theorems.proofs.FormatsLemmas.{zero, nonzero, short_jumps}
use Rattle.rv_filling_theorems.proofs.by_format.parcels_fill.Goals as goal

-- src/by_format.rt:27:1
pub returns-clause-zero : goal.returns-clause-zero
returns-clause-zero c = zero

pub returns-clause-nonzero : goal.returns-clause-nonzero
returns-clause-nonzero c = nonzero

pub returns-clause-jumps : goal.returns-clause-jumps
returns-clause-jumps c = short_jumps
