use Rattle.rv_sources_link_theorems.proofs.collected.DropsLemmas.{drops_join}
use Rattle.rv_sources_link_theorems.proofs.law.sources_are_collected_alike.Goals as goal

pub returns : goal.returns
returns c = drops_join
