use Rattle.std.proofs.Common.{◌∙◌, ap, sym}
use Rattle.rv_unit_laws.specs.Tables as laws
use Rattle.rv_unit.proofs.laws.units_agree.Goals as goal

pub returns : goal.returns
returns c = λ u v same. (
  u.filled.stand ∙ ap laws.places same ∙ sym v.filled.stand,
  u.filled.options ∙ ap laws.all_options same ∙ sym v.filled.options,
  u.filled.tables ∙ ap laws.tables same ∙ sym v.filled.tables,
)
