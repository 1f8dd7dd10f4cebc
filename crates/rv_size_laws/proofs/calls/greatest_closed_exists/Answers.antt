use Rattle.rv_size_laws.proofs.ShorteningLemmas.{greatest_closed_exists}
use Rattle.rv_size_laws.proofs.calls.greatest_closed_exists.Goals as goal

pub returns : goal.returns
returns c = greatest_closed_exists
