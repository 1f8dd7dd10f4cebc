use Rattle.rv_sources_link_theorems.proofs.two_files.TwoObjectsLemmas.{first_is, second_is}
use Rattle.rv_sources_link_theorems.proofs.worked.two_files_are_objects.Goals as goal

pub returns-clause-first : goal.returns-clause-first
returns-clause-first c = first_is

pub returns-clause-second : goal.returns-clause-second
returns-clause-second c = second_is
