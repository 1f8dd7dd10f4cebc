use Rattle.rv_size_laws.proofs.ShorteningLemmas.{closed_or_shortens}
use Rattle.rv_size_laws.proofs.calls.closed_or_shortens.Goals as goal

pub returns : goal.returns
returns c = closed_or_shortens
