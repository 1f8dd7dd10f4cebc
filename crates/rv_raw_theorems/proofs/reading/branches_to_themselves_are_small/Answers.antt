use Rattle.rv_raw_theorems.proofs.SizesLemmas.{sizes_are}
use Rattle.rv_raw_theorems.proofs.reading.branches_to_themselves_are_small.Goals as goal

pub returns : goal.returns
returns c = sizes_are
