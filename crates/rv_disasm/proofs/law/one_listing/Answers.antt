use Rattle.rv_listing_laws.proofs.OrderedLemmas.{one_listing}
use Rattle.rv_disasm.proofs.law.one_listing.Goals as goal

pub returns : goal.returns
returns c = one_listing
