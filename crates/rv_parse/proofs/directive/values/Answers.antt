use Rattle.std.proofs.Common.{◌∙◌, sym}
use Rattle.std.proofs.lemmas.Result.{err_from_is_err_and}
use Rattle.rv_parse.proofs.ListsLemmas.{values, data_fail, several_fail, several_said, one_wrong, one_said}
use Rattle.rv_parse.proofs.directive.values.Goals as goal

pub returns-in_err-first : goal.returns-in_err-first
returns-in_err-first c =
    let p = err_from_is_err_and c.from_residual.result c.from_residual.ensures.1 in
    rw (p.1, p.2) (data_fail _ _ _ c.in_err-first.ensures)

pub returns-in_err-several : goal.returns-in_err-several
returns-in_err-several c =
    let p = err_from_is_err_and c.from_residual-in_err-several.result c.from_residual-in_err-several.ensures.1 in
    rw (p.1, p.2) (several_fail _ _ _ _ _ c.in_ok-first.ensures c.in_err-several.ensures)

pub returns-then-begins_comma : goal.returns-then-begins_comma
returns-then-begins_comma c = several_said _ _ _ _ _ _ c.in_ok-first.ensures c.in_ok-several.ensures

pub returns-in_err-end : goal.returns-in_err-end
returns-in_err-end c =
    let p = err_from_is_err_and c.from_residual-in_err-end.result c.from_residual-in_err-end.ensures.1 in
    rw (p.1, p.2) (one_wrong _ _ _ _ _ c.in_ok-first.ensures (sym (c.begins_comma.ensures values) ∙ c.if-begins_comma.false) c.in_err-end.ensures)

pub returns : goal.returns
returns c = one_said _ _ _ _ _ c.in_ok-first.ensures (sym (c.begins_comma.ensures values) ∙ c.if-begins_comma.false) c.in_ok-end.ensures
