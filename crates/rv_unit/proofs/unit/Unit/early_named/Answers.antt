use Rattle.std.proofs.Common.{◌∙◌, ap}
use Rattle.rv_unit_laws.specs.Tables.{weakened}
use Rattle.rv_unit.specs.Tables.{tables_of}
use Rattle.rv_unit.proofs.unit.Unit.early_named.Goals as goal

pub returns : goal.returns
returns c = λ i o h.
    c.weakened.ensures i ∙ ap (weakened ((tables_of c.args.self.now.tables).bindings c.args.name.now)) (c.early_own_named.ensures i o h)
