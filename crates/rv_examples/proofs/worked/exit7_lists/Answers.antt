use Rattle.rv_examples.proofs.Exit7ListingLemmas.{lists}
use Rattle.rv_examples.proofs.worked.exit7_lists.Goals as goal

pub returns : goal.returns
returns c = lists
