use Rattle.std.proofs.lemmas.Result.{err_from_is_err_and}
use Rattle.rv_parse.proofs.ParcelsLemmas.{number_last, registers_wrong, last_fails, last_read}
use Rattle.rv_parse.proofs.parcel.number.Goals as goal

pub returns-in_err-first : goal.returns-in_err-first
returns-in_err-first c =
    let p = err_from_is_err_and c.from_residual.result c.from_residual.ensures.1 in
    rw (p.1, p.2) (registers_wrong _ _ _ _ (number_last _ c.requires) c.in_err-first.ensures)

pub returns-in_err-number : goal.returns-in_err-number
returns-in_err-number c =
    let p = err_from_is_err_and c.from_residual-in_err-number.result c.from_residual-in_err-number.ensures.1 in
    rw (p.1, p.2) (last_fails _ _ _ _ _ _ (number_last _ c.requires) c.in_ok-first.ensures c.in_err-number.ensures)

pub returns : goal.returns
returns c = rw c.given.ensures (last_read _ _ _ _ _ _ _ _ (number_last _ c.requires) c.in_ok-first.ensures c.in_ok-number.ensures)
