-- What `memmem` finds is the first `*/`.
use Rattle.rv_lexer.proofs.ScansLemmas.{found_close}
use Rattle.rv_lexer.proofs.lexeme.close_at.Goals as goal

pub returns : goal.returns
returns c = found_close c.args.bytes.now c.find.result c.find.ensures
