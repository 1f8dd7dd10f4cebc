use Rattle.rv_pseudo_laws.proofs.PartsLemmas.{code_valid}
use Rattle.rv_pseudo_laws.proofs.laws.code_valid.Goals as goal

pub returns : goal.returns
returns c = code_valid
