use Rattle.rv_expression_laws.proofs.TreesLemmas.{postfix_tree}
use Rattle.rv_expression_laws.proofs.laws.postfix_tree.Goals as goal

pub returns : goal.returns
returns c = postfix_tree
