use Rattle.std.proofs.Common.{pos}
use Rattle.rv_pseudo.proofs.ParcelRowsLemmas.{form_line}
use Rattle.rv_pseudo.proofs.parcel.form_bare.Goals as goal

pub returns-in-Registers-clause-line : goal.returns-in-Registers-clause-line
returns-in-Registers-clause-line c = form_line c.args.operation c.args.a c.args.b (pos 0) c.form.result c.form.ensures
