use Rattle.rv_isa_laws.proofs.ReaderLemmas.{word_read, word_read-exact}
use Rattle.rv_encode.proofs.laws.reader_exists.Goals as goal

pub returns : goal.returns
returns c = (word_read, word_read-exact)
