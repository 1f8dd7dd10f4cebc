use Rattle.rv_sources_link_theorems.proofs.JoinsLemmas.{joins}
use Rattle.rv_sources_link_theorems.proofs.collected.DropsLemmas.{drops_join}
use Rattle.rv_sources_link_theorems.proofs.law.objects_of_sources_link.Goals as goal

pub returns : goal.returns
returns c = λ sources os bounds relax gc l h program.
    joins sources os bounds relax gc l h (drops_join gc sources os l.map.drops h program.leaves.collected) program.left program.leaves.relaxed program.linked
