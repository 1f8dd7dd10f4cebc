use Rattle.rv_unique_theorems.proofs.FileRoomLemmas.{has_file}
use Rattle.rv_unique_theorems.proofs.object_law.objects_have_files.Goals as goal

pub returns : goal.returns
returns c = has_file
