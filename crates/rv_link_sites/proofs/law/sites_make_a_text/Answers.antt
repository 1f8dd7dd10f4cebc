use Rattle.rv_link_sites.proofs.CodeObjectsLemmas.{sites_text, sites_within}
use Rattle.rv_link_sites.proofs.law.sites_make_a_text.Goals as goal

pub returns-clause-text : goal.returns-clause-text
returns-clause-text c = sites_text

pub returns-clause-within : goal.returns-clause-within
returns-clause-within c = sites_within
