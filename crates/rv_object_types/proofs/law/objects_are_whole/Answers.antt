use Rattle.rv_object_types.proofs.WholeLemmas.{are_whole}
use Rattle.rv_object_types.proofs.law.objects_are_whole.Goals as goal

pub returns : goal.returns
returns c = are_whole
