use Rattle.std.proofs.Common.{◌∙◌, sym}
use Rattle.std.proofs.lemmas.Result.{err_from_is_err_and}
use Rattle.rv_lexer.specs.Token.{token_of}
use Rattle.rv_lexer.specs.Cursor.{remaining}
use Rattle.rv_parse.proofs.ListsLemmas.{names_go_on, names_undone}
use Rattle.rv_parse.proofs.directive.names.Goals as goal

pub loop-cursor-preserved : goal.loop-cursor-preserved
loop-cursor-preserved c =
    names_go_on _ c.loop-cursor.names.items _ _ (token_of c.loop-cursor.cursor.next) _ _ _ c.loop-cursor.invariant c.advance.ensures
    (sym c.is_comma.ensures ∙ c.loop-cursor-test.true) c.in_ok-symbol-2.ensures c.in_ok-push-2.ensures.items

pub returns-in_err-end : goal.returns-in_err-end
unfolding remaining
returns-in_err-end c =
    let p = err_from_is_err_and c.from_residual-in_err-end.result c.from_residual-in_err-end.ensures.1 in
    rw (p.1, p.2) (names_undone _ c.loop-cursor.names.items (token_of c.loop-cursor.cursor.next) _ _ c.loop-cursor.invariant
    (sym c.is_comma.ensures ∙ c.loop-cursor-test.false) c.in_err-end.ensures)
