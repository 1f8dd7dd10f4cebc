use Rattle.rv_expression_laws.proofs.TreesLemmas.{bare_value}
use Rattle.rv_expression_laws.proofs.laws.bare_value.Goals as goal

pub returns : goal.returns
returns c = bare_value
