use Rattle.std.proofs.Common.{◌≡◌, None, map, subst}
use Rattle.std.proofs.lemmas.Result.{err_from_is_err_and}
use Rattle.rv_statement.specs.View.{statement_of}
use Rattle.rv_unit.specs.Unit.{said}
use Rattle.rv_assemble_laws.specs.Refusals.{statements_fault}
use Rattle.rv_assemble.specs.Placed.{AreRefused}
use Rattle.rv_assemble.proofs.RefusedLemmas.{all_sound, unit_refused, code_refused}
use Rattle.rv_assemble.proofs.placed.checked.Goals as goal

pub returns-in_err-unit-clause-refuses : goal.returns-in_err-unit-clause-refuses
returns-in_err-unit-clause-refuses c =
    let p = err_from_is_err_and c.from_residual.result c.from_residual.ensures.1 in
    rw (p.1, p.2) (unit_refused (map statement_of c.args.statements.items) c.in_err-unit.field-0.0 c.in_err-unit.ensures.refuses)

pub returns-in_err-_draft-clause-refuses : goal.returns-in_err-_draft-clause-refuses
returns-in_err-_draft-clause-refuses c =
    let p = err_from_is_err_and c.from_residual-in_err-_draft.result c.from_residual-in_err-_draft.ensures.1 in
    rw (p.1, p.2) (subst (λ ss. AreRefused ss c.in_err-_draft.field-0.0) c.in_ok-unit.ensures.same (code_refused (said c.in_ok-unit.unit) c.in_err-_draft.field-0.0 c.in_ok-unit.ensures.good c.in_err-_draft.ensures.refuses))

pub returns-clause-sound : goal.returns-clause-sound
returns-clause-sound c =
    subst (λ ss. statements_fault ss ≡ None) c.in_ok-unit.ensures.same (all_sound (said c.in_ok-unit.unit) c.in_ok-unit.ensures.good c.in_ok-_draft.ensures.sound)
