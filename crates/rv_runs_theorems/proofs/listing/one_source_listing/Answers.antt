use Rattle.rv_runs_theorems.proofs.OneListingLemmas.{one_source_listing}
use Rattle.rv_runs_theorems.proofs.listing.one_source_listing.Goals as goal

pub returns : goal.returns
returns c = one_source_listing
