use Rattle.std.proofs.Common.{◌∙◌, sym, arith}
use Rattle.rv_lexer.specs.Token.{token_of}
use Rattle.rv_lexer.specs.Cursor.{remaining}
use Rattle.rv_parse_laws.proofs.ProgressLemmas.{push_end, statement_shorter}
use Rattle.std.proofs.lemmas.Result.{err_from_is_err_and}
use Rattle.rv_parse.proofs.StatementsLemmas.{statements_push, counted_push, behind, left_is, statements_end, refuses_here}
use Rattle.rv_parse.specs.Opened.{is_had}
use Rattle.rv_lexer.specs.Left.{tokens_left}
use Rattle.rv_statement.specs.View.{statement_of}
use Rattle.rv_parse.proofs.OpenedLemmas.{knows_push}
use Rattle.rv_parse.proofs.OffsetsLemmas.{begins_here}
use Rattle.rv_parse.proofs.source.statements.Goals as goal

pub loop-cursor-preserved-then-is_end : goal.loop-cursor-preserved-then-is_end
loop-cursor-preserved-then-is_end g c = record {
  says = push_end _ (token_of c.loop-cursor.cursor.next) (remaining c.loop-cursor.cursor) _ _ c.loop-cursor.invariant.says c.advance.ensures (sym c.is_end.ensures ∙ c.if-is_end.true);
  begin = c.loop-cursor.invariant.begin;
  counted = c.loop-cursor.invariant.counted;
  within = c.loop-cursor.invariant.within;
  knows = c.loop-cursor.invariant.knows;
}

pub loop-cursor-smaller : goal.loop-cursor-smaller
loop-cursor-smaller g c = statement_shorter (g.L.StatementList.said c.loop-cursor.statements) _ _ _ (c.in_ok-statement.ensures.read (g.L.StatementList.said c.loop-cursor.statements) c.loop-cursor.invariant.knows)

pub loop-cursor-preserved : goal.loop-cursor-preserved
loop-cursor-preserved g c = record {
  says = statements_push _ (token_of c.loop-cursor.cursor.next) (remaining c.loop-cursor.cursor) (behind c.loop-cursor.cursor) _ c.in_ok-statement.statement (g.L.StatementList.said c.loop-cursor.statements) _
      c.loop-cursor.invariant.says (left_is c.loop-cursor.cursor) (c.in_ok-statement.ensures.read (g.L.StatementList.said c.loop-cursor.statements) c.loop-cursor.invariant.knows) c.in_ok-statement.ensures.line c.in_ok-put.ensures.said;
  begin = c.in_ok-put.ensures.begin (tokens_left c.args.lexer) c.loop-cursor.invariant.begin
      (begins_here (tokens_left c.args.lexer) c.loop-cursor.cursor (g.L.StatementList.said c.loop-cursor.statements) _ (statement_of c.in_ok-statement.statement) c.loop-cursor.invariant.says (sym c.is_end.ensures ∙ c.if-is_end.false) c.in_ok-put.ensures.said);
  counted = counted_push c.in_ok-statement.statement (g.L.StatementList.said c.loop-cursor.statements) _ _ c.loop-cursor.invariant.counted c.in_ok-put.ensures.said;
  within = omega (arith, c.in_ok-statement.ensures.room);
  knows = knows_push c.add.new.self.set (g.L.StatementList.said c.loop-cursor.statements) _ c.in_ok-statement.statement
      (c.in_ok-add.ensures (λ n. is_had (g.L.StatementList.said c.loop-cursor.statements) n) c.loop-cursor.invariant.knows) c.in_ok-put.ensures.said;
}

pub returns-clause-says : goal.returns-clause-says
returns-clause-says g c = statements_end _ c.loop-cursor.cursor _ c.loop-cursor.invariant.says (sym c.is_source_end.ensures ∙ c.loop-cursor-test.false)

pub returns-in_err-statement-clause-refuses : goal.returns-in_err-statement-clause-refuses
returns-in_err-statement-clause-refuses g c =
    let p = err_from_is_err_and c.from_residual.result c.from_residual.ensures.1 in
    rw (p.1, p.2) (refuses_here _ c.loop-cursor.cursor _ _ _ c.loop-cursor.invariant.says (sym c.is_end.ensures ∙ c.if-is_end.false) c.loop-cursor.invariant.counted
    (c.in_err-statement.ensures.stops (g.L.StatementList.said c.loop-cursor.statements) c.loop-cursor.invariant.knows c.loop-cursor.invariant.within))
