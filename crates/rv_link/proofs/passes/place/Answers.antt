use Rattle.std.proofs.lemmas.Result.{err_from_is_err_and}
use Rattle.rv_relax.specs.Plan.{planned_objects}
use Rattle.rv_link.proofs.UnlinkedLemmas.{unplaced}
use Rattle.rv_link.proofs.passes.place.Goals as goal

pub returns-in_err-placement-clause-refuses : goal.returns-in_err-placement-clause-refuses
returns-in_err-placement-clause-refuses c =
    let os = planned_objects c.args.plan.now in
    let found = err_from_is_err_and c.from_residual.result c.from_residual.ensures.1 in
    rw (found.1, found.2) (unplaced os c.args.bounds c.in_err-placement.field-0.0 c.in_err-placement.ensures.refuses)
