use Rattle.std.proofs.Common.{◌∙◌, ap, option_map}
use Rattle.rv_unit.specs.Tables.{label_at}
use Rattle.rv_unit.proofs.LookupsLemmas.{label_found}
use Rattle.rv_unit.proofs.tables.Tables.label.Goals as goal

pub returns : goal.returns
returns c = ap (option_map (label_at c.args.name.now)) (c.copied.ensures ∙ c.get.ensures.value) ∙ label_found c.args.name.now c.args.self.now.labels.entries
