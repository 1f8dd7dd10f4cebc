use Rattle.std.proofs.Common.{sym, ap, ◌∙◌}
use Rattle.rv_pseudo.specs.Faults as faults
use Rattle.rv_pseudo.specs.Templates as is
use Rattle.rv_pseudo.proofs.ParcelRowsLemmas.{parcel_named}
use Rattle.rv_pseudo.proofs.parcel.named_with.Goals as goal

pub returns-in-Parcel-clause-is : goal.returns-in-Parcel-clause-is
returns-in-Parcel-clause-is c = λ e.
    let o = c.in-Parcel in
    ap (λ operation. is.named_of (λ t. faults.constant_in (faults.worth_of c.args.worth)) (is.statement_with operation c.args.function e)) o.is
    ∙ parcel_named o.operation o.a o.b c.args.function e (λ t. faults.constant_in (faults.worth_of c.args.worth))
    ∙ ap (is.form_told o.operation o.a o.b) (sym (c.number_told.ensures e)) ∙ sym c.form_told.ensures.is
