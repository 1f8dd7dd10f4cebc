use Rattle.rv_expression_laws.proofs.ExpressionValuesLemmas.{postfix_fits}
use Rattle.rv_expression_laws.proofs.laws.postfix_fits.Goals as goal

pub returns : goal.returns
returns c = postfix_fits
