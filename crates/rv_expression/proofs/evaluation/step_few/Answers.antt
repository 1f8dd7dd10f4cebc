-- What each node does to the few values.
use Rattle.std.proofs.Common.{◌∙◌, sym, ap, refl}
use Rattle.rv_list_laws.proofs.OptionsLemmas.{if_some_map}
use Rattle.rv_expression_laws.specs.Expression.{Literal}
use Rattle.rv_expression_laws.specs.Values.{after_node}
use Rattle.rv_expression.specs.declared.node.Node.{Node}
use Rattle.rv_expression.specs.declared.evaluation.Part.TheVariants as parts
use Rattle.rv_expression.specs.Nodes.{symbol_of, node_of}
use Rattle.rv_expression.specs.Eval.{tops}
use Rattle.rv_expression.proofs.EvalsLemmas.{push_step, unary_step, binary_step}
use Rattle.rv_expression.proofs.evaluation.step_few.Goals as goal

pub returns-in-Number : goal.returns-in-Number
returns-in-Number g c = if_some_map c.push_few.result _ _
    (λ _ pushed m means.
    push_step m c.args.stack.now.items c.push_few.new.stack.items (parts.Constant c.in-Number.number) (Literal c.in-Number.number) pushed refl
    ∙ ap (λ (n : Node). after_node m (node_of n) (tops c.args.stack.now.items)) (sym c.in-Number.is))
    c.push_few.ensures

pub returns-in-Symbol : goal.returns-in-Symbol
returns-in-Symbol g c = if_some_map c.push_few-in-Symbol.result _ _
    (λ _ pushed m means.
    push_step m c.args.stack.now.items c.push_few-in-Symbol.new.stack.items c.lone.result (symbol_of c.in-Symbol.symbol) pushed (c.lone.ensures m means)
    ∙ ap (λ (n : Node). after_node m (node_of n) (tops c.args.stack.now.items)) (sym c.in-Symbol.is))
    c.push_few-in-Symbol.ensures

pub returns-in_ok-operand-in-Unary : goal.returns-in_ok-operand-in-Unary
returns-in_ok-operand-in-Unary g c = if_some_map c.push_few-in-Unary.result _ _
    (λ _ pushed m means.
    unary_step m c.args.stack.now.items c.pop_few.new.stack.items c.push_few-in-Unary.new.stack.items c.in_ok-operand-in-Unary.operand c.alone.result c.in-Unary.operator
    c.in_ok-operand-in-Unary.ensures pushed c.alone.ensures
    ∙ ap (λ (n : Node). after_node m (node_of n) (tops c.args.stack.now.items)) (sym c.in-Unary.is))
    c.push_few-in-Unary.ensures

pub returns-in_ok-left-in-Binary : goal.returns-in_ok-left-in-Binary
returns-in_ok-left-in-Binary g c = if_some_map c.push_few-in-Binary.result _ _
    (λ _ pushed m means.
    binary_step m c.args.stack.now.items c.pop_few-in-Binary.new.stack.items c.pop_few-in-Binary-2.new.stack.items c.push_few-in-Binary.new.stack.items
    c.in_ok-left-in-Binary.left c.in_ok-right-in-Binary.right c.both.result c.in-Binary.operator
    c.in_ok-right-in-Binary.ensures c.in_ok-left-in-Binary.ensures pushed c.both.ensures
    ∙ ap (λ (n : Node). after_node m (node_of n) (tops c.args.stack.now.items)) (sym c.in-Binary.is))
    c.push_few-in-Binary.ensures
