use Rattle.rv_pseudo_laws.proofs.SequencesLemmas.{li_sets}
use Rattle.rv_pseudo_laws.proofs.laws.li_sets.Goals as goal

pub returns : goal.returns
returns c = li_sets
