use Rattle.rv_unique_theorems.proofs.PlacedLemmas.{rows_placed}
use Rattle.rv_unique_theorems.proofs.LeftSoundLemmas.{leaves_even}
use Rattle.rv_unique_theorems.proofs.link_law.objects_keep_it.Goals as goal

pub returns-clause-rows : goal.returns-clause-rows
returns-clause-rows c = rows_placed

pub returns-clause-runs : goal.returns-clause-runs
returns-clause-runs c = leaves_even
