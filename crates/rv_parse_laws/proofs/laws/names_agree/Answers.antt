use Rattle.rv_parse_laws.proofs.NamesLemmas.{alone, apart, means}
use Rattle.rv_parse_laws.proofs.laws.names_agree.Goals as goal

pub returns-clause-means : goal.returns-clause-means
returns-clause-means c = means

pub returns-clause-alone : goal.returns-clause-alone
returns-clause-alone c = alone

pub returns-clause-apart : goal.returns-clause-apart
returns-clause-apart c = apart
