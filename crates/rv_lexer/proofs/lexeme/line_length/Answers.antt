-- What `memchr` finds is the end of the line.
use Rattle.rv_lexer.proofs.ScansLemmas.{line_some, line_none}
use Rattle.rv_lexer.proofs.lexeme.line_length.Goals as goal

pub returns-in-Some : goal.returns-in-Some
returns-in-Some c = line_some c.args.bytes.now c.in-Some.length c.in-Some.ensures

pub returns-in-None : goal.returns-in-None
returns-in-None c = line_none c.args.bytes.now c.in-None.ensures
