use Rattle.std.proofs.Common.{subst}
use Rattle.rv_list_laws.proofs.OptionsLemmas.{if_some_weaker}
use Rattle.rv_expression.specs.Eval.{IsOutcome}
use Rattle.rv_instruction.proofs.known.with_one.Goals as goal

pub returns-in-Ok-clause-is : goal.returns-in-Ok-clause-is
returns-in-Ok-clause-is c =
    if_some_weaker _ _ (λ i is line v out. is v (subst (λ r. IsOutcome r line v) c.in-Ok.is out)) c.value_one.result c.value_one.ensures.is
