use Rattle.std.proofs.Common.{◌≡◌, ◌≤◌, length}
use Rattle.rv_statement_laws.specs.Limits.{most_statements}
use Rattle.rv_parse_laws.specs.Refusals.{SaysUpTo}
use Rattle.rv_lexer.specs.Left.{tokens_left}
use Rattle.rv_lexer.specs.Cursor.{remaining}
use Rattle.rv_parse.specs.Opened.{Knows}
use Rattle.rv_parse.proofs.source.statements.Given as goal

-- the tokens say the statements so far, up to those that are left
abbrev pub invariant-loop-cursor : goal.invariant-loop-cursor
invariant-loop-cursor g l = record {
  says : SaysUpTo (tokens_left l.fn.lexer) (remaining l.cursor) (g.L.StatementList.said l.statements);
  begin : g.L.StatementList.begin_in l.statements (tokens_left l.fn.lexer);
  counted : length (g.L.StatementList.said l.statements) ≡ l.count;
  within : l.count ≤ most_statements;
  knows : Knows l.opened.set (g.L.StatementList.said l.statements);
}

abbrev pub decreases-loop-cursor : goal.decreases-loop-cursor
decreases-loop-cursor g l = length (remaining l.cursor)
