use Rattle.rv_sources_link_theorems.proofs.two_files.TwoLinkedLemmas.{linked}
use Rattle.rv_sources_link_theorems.proofs.worked.two_files_link.Goals as goal

pub returns : goal.returns
returns c = linked
