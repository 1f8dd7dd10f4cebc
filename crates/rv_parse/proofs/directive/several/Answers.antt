use Rattle.std.proofs.Common.{◌∙◌, sym}
use Rattle.std.proofs.lemmas.Result.{err_from_is_err_and}
use Rattle.rv_lexer.specs.Token.{token_of}
use Rattle.rv_lexer.specs.Cursor.{remaining}
use Rattle.rv_parse.proofs.ListsLemmas.{values_go_on, values_fail, values_undone}
use Rattle.rv_parse.proofs.directive.several.Goals as goal

pub loop-alloc-preserved : goal.loop-alloc-preserved
loop-alloc-preserved c =
    values_go_on _ c.loop-alloc.values.items _ _ (token_of c.loop-alloc.cursor.next) _ _ _ c.loop-alloc.invariant c.advance.ensures
    (sym c.is_comma.ensures ∙ c.loop-alloc-test.true) c.in_ok-value.ensures c.in_ok-push-2.ensures.items

pub returns-in_err-end : goal.returns-in_err-end
unfolding remaining
returns-in_err-end c =
    let p = err_from_is_err_and c.from_residual-in_err-end.result c.from_residual-in_err-end.ensures.1 in
    rw (p.1, p.2) (values_undone _ c.loop-alloc.values.items (token_of c.loop-alloc.cursor.next) _ _ c.loop-alloc.invariant
    (sym c.is_comma.ensures ∙ c.loop-alloc-test.false) c.in_err-end.ensures)

pub returns-in_err-value : goal.returns-in_err-value
returns-in_err-value c =
    let p = err_from_is_err_and c.from_residual-in_err-value.result c.from_residual-in_err-value.ensures.1 in
    rw (p.1, p.2) (values_fail _ c.loop-alloc.values.items (token_of c.loop-alloc.cursor.next) _ _ _ c.loop-alloc.invariant c.advance.ensures
    (sym c.is_comma.ensures ∙ c.loop-alloc-test.true) c.in_err-value.ensures)
