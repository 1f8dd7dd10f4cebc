use Rattle.std.proofs.lemmas.Result.{err_from_is_err_and}
use Rattle.rv_parse.proofs.ParcelsLemmas.{access_wrong, access_read}
use Rattle.rv_parse.proofs.parcel.access.Goals as goal

pub returns-in_err-first : goal.returns-in_err-first
returns-in_err-first c =
    let p = err_from_is_err_and c.from_residual.result c.from_residual.ensures.1 in
    rw (p.1, p.2) (access_wrong _ _ _ c.unwrap-set.result _ _ c.requires c.first.ensures c.second.ensures c.unwrap-set.ensures c.in_err-first.ensures)

pub returns : goal.returns
returns c = rw (access_read _ _ _ c.unwrap-set.result _ _ _ c.requires c.first.ensures c.second.ensures c.unwrap-set.ensures c.in_ok-first.ensures) c.address.ensures
