use Rattle.rv_expression_laws.proofs.ExpressionValuesLemmas.{values_of_postfix}
use Rattle.rv_expression_laws.proofs.laws.postfix_value.Goals as goal

pub returns : goal.returns
returns c = values_of_postfix
