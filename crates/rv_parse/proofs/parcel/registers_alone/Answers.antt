use Rattle.std.proofs.Common.{◌∙◌}
use Rattle.std.proofs.lemmas.Result.{err_from_is_err_and}
use Rattle.rv_parse.proofs.ParcelsLemmas.{alone_at, alone_read, wrong_then, then_wrong}
use Rattle.rv_parse.proofs.parcel.registers_alone.Goals as goal

pub returns-in_err-first-in-Some : goal.returns-in_err-first-in-Some
returns-in_err-first-in-Some c =
    let p = err_from_is_err_and c.from_residual.result c.from_residual.ensures.1 in
    rw (p.1, p.2) (alone_at _ _ _ _ _ c.first.ensures c.second.ensures c.in-Some.is ∙ wrong_then _ _ _ c.in_err-first-in-Some.ensures)

pub returns-in_err-second-in-Some : goal.returns-in_err-second-in-Some
returns-in_err-second-in-Some c =
    let p = err_from_is_err_and c.from_residual-in_err-second-in-Some.result c.from_residual-in_err-second-in-Some.ensures.1 in
    rw (p.1, p.2) (alone_at _ _ _ _ _ c.first.ensures c.second.ensures c.in-Some.is ∙ then_wrong _ _ _ _ _ c.in_ok-first-in-Some.ensures c.in_err-second-in-Some.ensures)

pub returns-in_ok-second-in-Some : goal.returns-in_ok-second-in-Some
returns-in_ok-second-in-Some c =
    alone_read _ _ _ _ _ _ _ _ _ c.first.ensures c.second.ensures c.in-Some.is c.in_ok-first-in-Some.ensures c.in_ok-second-in-Some.ensures
