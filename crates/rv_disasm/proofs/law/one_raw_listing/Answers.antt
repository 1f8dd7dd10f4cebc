use Rattle.rv_disasm.proofs.RawLemmas.{one_raw_listing}
use Rattle.rv_disasm.proofs.law.one_raw_listing.Goals as goal

pub returns : goal.returns
returns c = one_raw_listing
