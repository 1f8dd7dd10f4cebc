use Rattle.std.proofs.Common.{sym}
use Rattle.rv_pseudo_laws.proofs.SequencesLemmas.{above_whole, above_odd, above_fewer}
use Rattle.rv_pseudo_laws.proofs.laws.li_shrinks.Goals as goal

pub returns-clause-whole : goal.returns-clause-whole
returns-clause-whole c = λ v. sym (above_whole v)

pub returns-clause-odd : goal.returns-clause-odd
returns-clause-odd c = above_odd

pub returns-clause-fewer : goal.returns-clause-fewer
returns-clause-fewer c = above_fewer
