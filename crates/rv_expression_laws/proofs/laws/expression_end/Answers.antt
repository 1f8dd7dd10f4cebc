use Rattle.rv_expression_laws.proofs.ExpressionWrongLemmas.{ends_there, end_at, whole_there}
use Rattle.rv_expression_laws.proofs.laws.expression_end.Goals as goal

pub returns-clause-is : goal.returns-clause-is
returns-clause-is c = ends_there

pub returns-clause-found : goal.returns-clause-found
returns-clause-found c = end_at

pub returns-clause-whole : goal.returns-clause-whole
returns-clause-whole c = whole_there
