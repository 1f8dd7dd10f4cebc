-- The register of a name is the one that has it.
use Rattle.std.proofs.Common.{◌∙◌, ap}
use Rattle.std.specs.Prelude.{is_some}
use Rattle.rv_expression.proofs.RegistersLemmas.{register_found}
use Rattle.rv_expression.proofs.reading.is_register.Goals as goal

pub returns : goal.returns
returns c = c.is_some.ensures ∙ ap is_some (register_found c.args.name.now c.reg_named.result c.reg_named.ensures)
