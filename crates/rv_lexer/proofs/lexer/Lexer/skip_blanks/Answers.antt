-- The lexer past its blanks.
use Rattle.rv_lexer.proofs.BlanksLemmas.{past_blanks}
use Rattle.rv_lexer.proofs.lexer.Lexer.skip_blanks.Goals as goal
use Rattle.std.proofs.Common.{refl}

pub returns : goal.returns
returns c = past_blanks c.args.self.now _ c.blanks-count.result c.blanks-count.ensures.count c.split_at.ensures.back refl refl
