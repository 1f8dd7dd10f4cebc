use Rattle.rv_expression_laws.proofs.ExpressionsLemmas.{expression_is}
use Rattle.rv_expression_laws.proofs.laws.expression_is.Goals as goal

pub returns : goal.returns
returns c = expression_is
