use Rattle.rv_runs_theorems.proofs.ListedLemmas.{listed_is}
use Rattle.rv_runs_theorems.proofs.listing.listing_is_the_sources.Goals as goal

pub returns : goal.returns
returns c = listed_is
