use Rattle.rv_pseudo_laws.proofs.SequencesLemmas.{li_valid}
use Rattle.rv_pseudo_laws.proofs.laws.li_valid.Goals as goal

pub returns : goal.returns
returns c = li_valid
