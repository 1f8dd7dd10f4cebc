use Rattle.rv_expression_laws.proofs.TreesLemmas.{nodes_value}
use Rattle.rv_expression_laws.proofs.laws.nodes_value.Goals as goal

pub returns : goal.returns
returns c = nodes_value
