use Rattle.rv_expression_laws.proofs.JoinsLemmas.{joined_is, joined_found}
use Rattle.rv_expression_laws.proofs.laws.joined_name.Goals as goal

pub returns-clause-is : goal.returns-clause-is
returns-clause-is c = joined_is

pub returns-clause-found : goal.returns-clause-found
returns-clause-found c = joined_found
