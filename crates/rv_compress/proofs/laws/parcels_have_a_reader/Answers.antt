use Rattle.rv_parcel.proofs.ReaderLemmas.{reader, reader-exact}
use Rattle.rv_compress.proofs.laws.parcels_have_a_reader.Goals as goal

pub returns : goal.returns
returns c = (reader, reader-exact)
