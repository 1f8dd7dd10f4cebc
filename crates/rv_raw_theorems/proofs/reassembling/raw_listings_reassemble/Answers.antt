use Rattle.rv_raw_theorems.proofs.ReassemblyLemmas.{reassemble}
use Rattle.rv_raw_theorems.proofs.reassembling.raw_listings_reassemble.Goals as goal

pub returns : goal.returns
returns c = reassemble (record { reads = c.listing_reads.ensures; once = c.one_reading.ensures })
