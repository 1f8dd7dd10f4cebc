use Rattle.std.proofs.lemmas.Result.{err_from_is_err_and}
use Rattle.rv_parse.proofs.ParcelsLemmas.{target_last, registers_wrong, last_fails, target_read}
use Rattle.rv_parse.proofs.parcel.target.Goals as goal

pub returns-in_err-first : goal.returns-in_err-first
returns-in_err-first c =
    let p = err_from_is_err_and c.from_residual.result c.from_residual.ensures.1 in
    rw (p.1, p.2) (registers_wrong _ _ _ _ (target_last _ c.requires) c.in_err-first.ensures)

pub returns-in_err-target : goal.returns-in_err-target
returns-in_err-target c =
    let p = err_from_is_err_and c.from_residual-in_err-target.result c.from_residual-in_err-target.ensures.1 in
    rw (p.1, p.2) (last_fails _ _ _ _ _ _ (target_last _ c.requires) c.in_ok-first.ensures c.in_err-target.ensures)

pub returns : goal.returns
returns c = rw c.with.ensures (target_read _ _ _ _ _ _ _ c.requires c.in_ok-first.ensures c.in_ok-target.ensures)
