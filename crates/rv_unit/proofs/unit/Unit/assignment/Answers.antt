use Rattle.std.proofs.Common.{◌∙◌, ap}
use Rattle.rv_unit_laws.specs.Tables as laws
use Rattle.rv_unit.proofs.unit.Unit.assignment.Goals as goal

pub returns : goal.returns
returns c =
    let u = c.args.self.now in
    c.assignment.ensures u.filled.indexed ∙ ap (λ (t : laws.Tables). laws.assigned_ever t.assignments c.args.name.now) u.filled.tables
