use Rattle.rv_link_laws.proofs.DanglingLemmas.{refer_to_kept, entry_stays, same_entry_place}
use Rattle.rv_link_laws.proofs.law.nothing_dangles.Goals as goal

pub returns-clause-refer : goal.returns-clause-refer
returns-clause-refer c = refer_to_kept

pub returns-clause-stays : goal.returns-clause-stays
returns-clause-stays c = entry_stays

pub returns-clause-begins : goal.returns-clause-begins
returns-clause-begins c = same_entry_place
