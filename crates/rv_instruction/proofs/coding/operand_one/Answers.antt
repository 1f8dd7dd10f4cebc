use Rattle.rv_list_laws.proofs.OptionsLemmas.{if_some_weaker}
use Rattle.rv_expression.specs.Expr.{tree_of_expr}
use Rattle.rv_instruction.specs.Scoped.{values_at}
use Rattle.rv_instruction.proofs.coding.operand_one.Goals as goal

pub returns-clause-one : goal.returns-clause-one
returns-clause-one c =
    if_some_weaker _ _ (λ i is index filled stands.
    is c.args.line (values_at c.args.scope.now index c.args.place (tree_of_expr c.args.expression.now)) (c.value-value.ensures index filled stands))
    c.with_one.result c.with_one.ensures.is
