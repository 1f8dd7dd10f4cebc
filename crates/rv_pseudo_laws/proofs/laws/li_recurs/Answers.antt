use Rattle.rv_pseudo_laws.proofs.SequencesLemmas.{li_recurs}
use Rattle.rv_pseudo_laws.proofs.laws.li_recurs.Goals as goal

pub returns : goal.returns
returns c = li_recurs
