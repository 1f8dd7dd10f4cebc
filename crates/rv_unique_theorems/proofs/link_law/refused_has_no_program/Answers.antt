use Rattle.rv_unique_theorems.proofs.WholeLemmas.{never_both}
use Rattle.rv_unique_theorems.proofs.link_law.refused_has_no_program.Goals as goal

pub returns : goal.returns
returns c = never_both
