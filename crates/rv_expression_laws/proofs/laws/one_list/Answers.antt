-- Both lists are the function's.
use Rattle.rv_expression_laws.proofs.TokensLemmas as tokens
use Rattle.rv_expression_laws.proofs.laws.one_list.Goals as goal

pub returns : goal.returns
returns c = tokens.one_list
