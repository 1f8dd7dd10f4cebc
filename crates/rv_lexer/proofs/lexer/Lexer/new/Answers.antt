-- One byte that is no token.
use Rattle.std.proofs.Common.{◌∙◌}
use Rattle.rv_lexer.proofs.StepsLemmas.{one_bad_token}
use Rattle.rv_lexer.proofs.lexer.Lexer.new.Goals as goal

pub returns-else-source-clause-long : goal.returns-else-source-clause-long
returns-else-source-clause-long c = λ _. c.at_start-else-source.ensures ∙ one_bad_token
