use Rattle.std.proofs.Common.{◌∙◌, sym}
use Rattle.std.proofs.lemmas.Result.{err_from_is_err_and}
use Rattle.rv_parse.proofs.LocatedLemmas.{based_err, based_ok, unread_fail, offset_err, offset_ok}
use Rattle.rv_parse.proofs.access.located.Goals as goal

pub returns-in_err-rs : goal.returns-in_err-rs
returns-in_err-rs c =
    let p = err_from_is_err_and c.from_residual.result c.from_residual.ensures.1 in
    rw (p.1, p.2) (based_err _ _ (sym c.begins_base.ensures ∙ c.if-begins_base.true) c.in_err-rs.ensures)

pub returns-then-begins_base : goal.returns-then-begins_base
returns-then-begins_base c = based_ok _ _ _ (sym c.begins_base.ensures ∙ c.if-begins_base.true) c.in_ok-rs.ensures

pub returns-in_err-offset : goal.returns-in_err-offset
returns-in_err-offset c =
    let p = err_from_is_err_and c.from_residual-in_err-offset.result c.from_residual-in_err-offset.ensures.1 in
    rw (p.1, p.2) (unread_fail _ _ (sym c.begins_base.ensures ∙ c.if-begins_base.false) c.in_err-offset.ensures.read)

pub returns-in_err-rs-2 : goal.returns-in_err-rs-2
returns-in_err-rs-2 c =
    let p = err_from_is_err_and c.from_residual-in_err-rs-2.result c.from_residual-in_err-rs-2.ensures.1 in
    rw (p.1, p.2)
    (offset_err _ _ _ _ (sym c.begins_base.ensures ∙ c.if-begins_base.false) c.in_ok-offset.ensures.read (sym c.is_target.ensures ∙ c.if-not-is_target.true)
    c.in_err-rs-2.ensures)

pub returns-then-not-is_target : goal.returns-then-not-is_target
returns-then-not-is_target c =
    offset_ok _ _ _ _ _ (sym c.begins_base.ensures ∙ c.if-begins_base.false) c.in_ok-offset.ensures.read (sym c.is_target.ensures ∙ c.if-not-is_target.true)
    c.in_ok-rs-2.ensures
