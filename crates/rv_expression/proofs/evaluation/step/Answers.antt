-- What each node does to the stack.
use Rattle.std.proofs.Common.{◌∙◌, sym, ap, refl}
use Rattle.rv_expression_laws.specs.Expression.{Literal}
use Rattle.rv_expression_laws.specs.Values.{after_node}
use Rattle.rv_expression.specs.declared.node.Node.{Node}
use Rattle.rv_expression.specs.declared.evaluation.Part.TheVariants as parts
use Rattle.rv_expression.specs.Nodes.{symbol_of, node_of}
use Rattle.rv_expression.specs.Eval.{part_value, meaning_of, tops}
use Rattle.rv_expression.proofs.EvalsLemmas.{push_step, unary_step, binary_step, symbol_part}
use Rattle.rv_expression.proofs.evaluation.step.Goals as goal

pub returns-in-Number-clause-values : goal.returns-in-Number-clause-values
returns-in-Number-clause-values g c = λ m means.
    push_step m c.args.stack.now.items c.push.new.self.items (parts.Constant c.in-Number.number) (Literal c.in-Number.number) c.push.ensures.items refl
    ∙ ap (λ (n : Node). after_node m (node_of n) (tops c.args.stack.now.items)) (sym c.in-Number.is)

pub returns-in-Symbol-clause-values : goal.returns-in-Symbol-clause-values
returns-in-Symbol-clause-values g c = λ m means.
    push_step m c.args.stack.now.items c.push-in-Symbol.new.self.items c.meant.result (symbol_of c.in-Symbol.symbol) c.push-in-Symbol.ensures.items
    (symbol_part m c.in-Symbol.symbol (part_value c.meant.result) (meaning_of c.names.result) c.meant.ensures (means c.in-Symbol.symbol c.names.result c.names.ensures))
    ∙ ap (λ (n : Node). after_node m (node_of n) (tops c.args.stack.now.items)) (sym c.in-Symbol.is)

pub returns-in-Unary-clause-values : goal.returns-in-Unary-clause-values
returns-in-Unary-clause-values g c = λ m means.
    unary_step m c.args.stack.now.items c.pop-operand.new.stack.items c.push-in-Unary.new.self.items c.pop-operand.result c.alone.result c.in-Unary.operator
    c.pop-operand.ensures.items c.push-in-Unary.ensures.items c.alone.ensures
    ∙ ap (λ (n : Node). after_node m (node_of n) (tops c.args.stack.now.items)) (sym c.in-Unary.is)

pub returns-in-Binary-clause-values : goal.returns-in-Binary-clause-values
returns-in-Binary-clause-values g c = λ m means.
    binary_step m c.args.stack.now.items c.pop-right.new.stack.items c.pop-left.new.stack.items c.push-in-Binary.new.self.items c.pop-left.result c.pop-right.result c.both.result c.in-Binary.operator
    c.pop-right.ensures.items c.pop-left.ensures.items c.push-in-Binary.ensures.items c.both.ensures
    ∙ ap (λ (n : Node). after_node m (node_of n) (tops c.args.stack.now.items)) (sym c.in-Binary.is)
