use Rattle.std.proofs.Common.{slice_index}
use Rattle.rv_size_laws.proofs.WideningLemmas.{reaches_shrunk}
use Rattle.rv_size_laws.proofs.branches.shrunk_branches_reach.Goals as goal

pub returns : goal.returns
returns c items sizes rows good grows i lt = reaches_shrunk items rows sizes grows i (slice_index sizes i) (good.reaching i lt)
