use Rattle.rv_lexer.specs.Token.{token_of}
use Rattle.rv_parse.proofs.StatementsLemmas.{said_as}
use Rattle.rv_parse.proofs.statement.statement.Goals as goal

pub returns : goal.returns
returns c = said_as c.statement_after.result (token_of c.args.cursor.now.next) _ _ _ c.advance.ensures c.requires c.statement_after.ensures
