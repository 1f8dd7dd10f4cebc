use Rattle.rv_parcel.proofs.ReaderLemmas.{stands-valid}
use Rattle.rv_compress.proofs.laws.parcels_stand_for_valid_instructions.Goals as goal

pub returns : goal.returns
returns c = stands-valid
