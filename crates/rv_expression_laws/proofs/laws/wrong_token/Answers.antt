use Rattle.rv_expression_laws.proofs.ExpressionFaultsLemmas.{fails_there, wrong_at, stops_there}
use Rattle.rv_expression_laws.proofs.laws.wrong_token.Goals as goal

pub returns-clause-is : goal.returns-clause-is
returns-clause-is c = fails_there

pub returns-clause-found : goal.returns-clause-found
returns-clause-found c = wrong_at

pub returns-clause-stops : goal.returns-clause-stops
returns-clause-stops c = stops_there
