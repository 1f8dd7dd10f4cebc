use Rattle.rv_link_laws.proofs.DanglingLemmas.{all_dropped, no_region_left}
use Rattle.rv_link_laws.proofs.EntryLeftLemmas.{no_entry}
use Rattle.rv_link_laws.proofs.law.nothing_begins.Goals as goal

pub returns-clause-dropped : goal.returns-clause-dropped
returns-clause-dropped c = all_dropped

pub returns-clause-left : goal.returns-clause-left
returns-clause-left c = no_region_left

pub returns-clause-entry : goal.returns-clause-entry
returns-clause-entry c = no_entry
