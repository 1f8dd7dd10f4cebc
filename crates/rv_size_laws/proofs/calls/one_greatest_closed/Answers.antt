use Rattle.rv_size_laws.proofs.ShorteningLemmas.{one_greatest_closed}
use Rattle.rv_size_laws.proofs.calls.one_greatest_closed.Goals as goal

pub returns : goal.returns
returns c = one_greatest_closed
