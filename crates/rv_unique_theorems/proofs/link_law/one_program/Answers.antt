use Rattle.rv_unique_theorems.proofs.WholeLemmas.{one_program}
use Rattle.rv_unique_theorems.proofs.link_law.one_program.Goals as goal

pub returns : goal.returns
returns c = one_program
