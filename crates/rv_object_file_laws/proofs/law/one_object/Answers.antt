use Rattle.rv_object_file_laws.proofs.ReadAgainLemmas as again
use Rattle.rv_object_file_laws.proofs.law.one_object.Goals as goal

pub returns : goal.returns
returns c = again.one_object
