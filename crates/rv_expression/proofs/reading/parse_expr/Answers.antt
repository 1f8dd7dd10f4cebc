-- The expression of the cursor is that of the lexer.
use Rattle.rv_expression.proofs.ReadingStepsLemmas.{parsed, only_read, unread}
use Rattle.rv_expression.proofs.reading.parse_expr.Goals as goal

pub returns-in-Ok-clause-reads : goal.returns-in-Ok-clause-reads
returns-in-Ok-clause-reads c =
    parsed _ _ _ _ _ _ c.in-Ok.ensures.reads c.new-cursor.ensures c.lexer.ensures

pub returns-in-Ok-clause-only : goal.returns-in-Ok-clause-only
returns-in-Ok-clause-only c =
    only_read _ _ _ _ _ _ c.in-Ok.ensures.reads c.new-cursor.ensures c.lexer.ensures

pub returns-in-Err-At-clause-unread : goal.returns-in-Err-At-clause-unread
returns-in-Err-At-clause-unread c = unread _ _ _ _ (rw c.in-Err-At.field-0-is at c.in-Err-At.ensures.reads) c.new-cursor.ensures
