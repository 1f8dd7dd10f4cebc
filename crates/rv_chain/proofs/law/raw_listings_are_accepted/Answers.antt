use Rattle.rv_chain.proofs.AcceptedLemmas.{accepted}
use Rattle.rv_chain.proofs.law.raw_listings_are_accepted.Goals as goal

pub returns : goal.returns
returns c = accepted c.raw_listings_have_no_fault.ensures c.raw_objects_have_a_program.ensures c.listing_reads.ensures c.one_reading.ensures c.not_both.ensures
