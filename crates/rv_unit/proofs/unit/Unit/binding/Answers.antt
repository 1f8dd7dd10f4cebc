use Rattle.std.proofs.Common.{◌∙◌, ap}
use Rattle.rv_unit_laws.specs.Tables as laws
use Rattle.rv_unit.proofs.unit.Unit.binding.Goals as goal

pub returns : goal.returns
returns c = c.binding.ensures ∙ ap (λ (t : laws.Tables). t.bindings c.args.name.now) c.args.self.now.filled.tables
