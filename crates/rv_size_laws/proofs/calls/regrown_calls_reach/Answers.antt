use Rattle.rv_size_laws.proofs.RegrowingLemmas.{regrown_all_reach}
use Rattle.rv_size_laws.proofs.calls.regrown_calls_reach.Goals as goal

pub returns : goal.returns
returns c = regrown_all_reach
