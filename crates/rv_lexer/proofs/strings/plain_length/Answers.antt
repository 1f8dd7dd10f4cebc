-- What `memchr3` finds is where the plain bytes end.
use Rattle.rv_lexer.proofs.PlainBytesLemmas.{plain_some, plain_none}
use Rattle.rv_lexer.proofs.strings.plain_length.Goals as goal

pub returns-in-Some-clause-count : goal.returns-in-Some-clause-count
returns-in-Some-clause-count c = plain_some c.args.bytes.now c.in-Some.length c.in-Some.ensures

pub returns-in-None-clause-count : goal.returns-in-None-clause-count
returns-in-None-clause-count c = plain_none c.args.bytes.now c.in-None.ensures
