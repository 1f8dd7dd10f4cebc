-- The function's list is one.
use Rattle.rv_expression_laws.proofs.TokensLemmas.{given}
use Rattle.rv_expression_laws.proofs.laws.some_list.Goals as goal

pub returns : goal.returns
returns c = given
