use Rattle.rv_filling_theorems.proofs.AllLemmas.{all_long, all_few, open_long}
use Rattle.rv_filling_theorems.proofs.laws.sizes_agree.Goals as goal

pub returns-clause-total : goal.returns-clause-total
returns-clause-total c = all_long

pub returns-clause-few : goal.returns-clause-few
returns-clause-few c = all_few

pub returns-clause-parts : goal.returns-clause-parts
returns-clause-parts c = open_long
