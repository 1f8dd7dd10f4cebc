use Rattle.std.proofs.Common.{to_z, of_z, w64}
use Rattle.rv_pseudo.proofs.ParcelRowsLemmas.{form_line}
use Rattle.rv_pseudo.proofs.parcel.form_beside.Goals as goal

pub returns-in-Number-clause-line : goal.returns-in-Number-clause-line
returns-in-Number-clause-line c =
    form_line c.args.operation c.args.a c.args.b (to_z w64 (of_z w64 c.args.number)) c.form.result c.form.ensures
