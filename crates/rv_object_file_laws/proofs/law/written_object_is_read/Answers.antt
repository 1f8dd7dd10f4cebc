use Rattle.rv_object_file_laws.proofs.FaultFreeLemmas.{written_has_no_fault}
use Rattle.rv_object_file_laws.proofs.ReadAgainLemmas.{written_is_read}
use Rattle.rv_object_file_laws.proofs.law.written_object_is_read.Goals as goal

pub returns-clause-fault : goal.returns-clause-fault
returns-clause-fault c = written_has_no_fault

pub returns-clause-object : goal.returns-clause-object
returns-clause-object c = written_is_read
