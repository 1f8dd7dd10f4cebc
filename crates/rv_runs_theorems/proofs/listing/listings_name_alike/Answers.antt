use Rattle.rv_runs_theorems.proofs.NamedLemmas.{named_alike}
use Rattle.rv_runs_theorems.proofs.listing.listings_name_alike.Goals as goal

pub returns : goal.returns
returns c = named_alike
