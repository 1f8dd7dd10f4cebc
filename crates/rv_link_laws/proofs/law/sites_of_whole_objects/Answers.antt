use Rattle.rv_link_laws.proofs.TextLineLemmas.{whole_text, whole_within}
use Rattle.rv_link_laws.proofs.law.sites_of_whole_objects.Goals as goal

pub returns-clause-text : goal.returns-clause-text
returns-clause-text c = whole_text

pub returns-clause-within : goal.returns-clause-within
returns-clause-within c = whole_within
