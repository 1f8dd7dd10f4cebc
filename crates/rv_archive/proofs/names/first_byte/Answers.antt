use Rattle.rv_archive.proofs.NamesLemmas.{first_is}
use Rattle.rv_archive.proofs.names.first_byte.Goals as goal

pub returns-clause-exact : goal.returns-clause-exact
returns-clause-exact c = first_is c.args.byte c.args.bytes.now c.memchr.result c.memchr.ensures
