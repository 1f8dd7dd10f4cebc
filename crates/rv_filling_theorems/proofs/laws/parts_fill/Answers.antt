use Rattle.rv_filling_theorems.proofs.AllLemmas.{parts_say, parts_encoded, parts_long, all_valid}
use Rattle.rv_filling_theorems.proofs.laws.parts_fill.Goals as goal

pub returns-clause-instructions : goal.returns-clause-instructions
returns-clause-instructions c = parts_say

pub returns-clause-encoded : goal.returns-clause-encoded
returns-clause-encoded c = parts_encoded

pub returns-clause-lengths : goal.returns-clause-lengths
returns-clause-lengths c = parts_long

pub returns-clause-valid : goal.returns-clause-valid
returns-clause-valid c = all_valid
