use Rattle.rv_expression_laws.proofs.ExpressionWrongLemmas.{can_go_on}
use Rattle.rv_expression_laws.proofs.ExpressionFaultsLemmas.{begins_taken}
use Rattle.rv_expression_laws.proofs.laws.taken_begins.Goals as goal

pub returns-clause-goes_on : goal.returns-clause-goes_on
returns-clause-goes_on c = can_go_on

pub returns-clause-taken : goal.returns-clause-taken
returns-clause-taken c = begins_taken
