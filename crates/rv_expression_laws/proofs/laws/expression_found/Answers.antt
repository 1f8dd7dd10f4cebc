use Rattle.rv_expression_laws.proofs.ExpressionFoundLemmas.{expression_found}
use Rattle.rv_expression_laws.proofs.laws.expression_found.Goals as goal

pub returns : goal.returns
returns c = expression_found
