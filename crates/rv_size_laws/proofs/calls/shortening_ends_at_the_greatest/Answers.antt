use Rattle.rv_size_laws.proofs.ShorteningLemmas.{shortened_greatest}
use Rattle.rv_size_laws.proofs.calls.shortening_ends_at_the_greatest.Goals as goal

pub returns : goal.returns
returns c = shortened_greatest
