use Rattle.rv_raw_theorems.proofs.FaultsLemmas.{no_fault}
use Rattle.rv_raw_theorems.proofs.TooLongLemmas.{not_too_long}
use Rattle.rv_raw_theorems.proofs.linking.raw_listings_have_no_fault.Goals as goal

pub returns : goal.returns
returns c before after h = (no_fault before after h, not_too_long before after h)
