-- A number or a symbol alone, and those with one operator.
use Rattle.std.proofs.Common.{◌∙◌, ap}
use Rattle.rv_expression_laws.specs.Expression.{Literal, Symbol}
use Rattle.rv_expression_laws.specs.Values as values
use Rattle.rv_expression.specs.declared.pair.Pair.{Pair}
use Rattle.rv_expression.specs.declared.pair.SymbolPair.{SymbolPair}
use Rattle.rv_expression.specs.Nodes.{symbol_of}
use Rattle.rv_expression.specs.Expr.{expr_of, tree_of_expr}
use Rattle.rv_expression.proofs.EvalsLemmas.{lone_value, lone_outcome, negative_value, pair_outcome}
use Rattle.rv_expression.proofs.evaluation.symbolic_value.Goals as goal

pub returns-in-Number : goal.returns-in-Number
returns-in-Number g c = λ m means. ap (λ e. values.value_of m (tree_of_expr e)) c.in-Number.is ∙ lone_value m (Literal c.in-Number.number)

pub returns-in-Name : goal.returns-in-Name
returns-in-Name g c = λ m means. lone_outcome m _ c.args.expr.now c.outcome.result c.args.line _ (ap expr_of c.in-Name.is) (c.lone.ensures m means) c.outcome.ensures

pub returns-in-Here : goal.returns-in-Here
returns-in-Here g c = λ m means. lone_outcome m _ c.args.expr.now c.outcome-in-Here.result c.args.line _ (ap expr_of c.in-Here.is) (c.lone-in-Here.ensures m means) c.outcome-in-Here.ensures

pub returns-in-Reference : goal.returns-in-Reference
returns-in-Reference g c = λ m means. lone_outcome m _ c.args.expr.now c.outcome-in-Reference.result c.args.line _ (ap expr_of c.in-Reference.is) (c.lone-in-Reference.ensures m means) c.outcome-in-Reference.ensures

pub returns-in-Negative : goal.returns-in-Negative
returns-in-Negative g c = λ m means. ap (λ e. values.value_of m (tree_of_expr e)) c.in-Negative.is ∙ negative_value m c.in-Negative.number

pub returns-in-NamePair : goal.returns-in-NamePair
returns-in-NamePair g c = λ m means.
    pair_outcome m _ (Literal _) _ c.args.expr.now c.outcome-in-NamePair.result c.args.line _ (ap expr_of c.in-NamePair.is)
    (c.pair_value.ensures m means ∙ ap (λ n. values.both c.in-NamePair.operator (values.primary_value m (Symbol c.in-NamePair.name.now)) (values.Constant n)) c.from.ensures) c.outcome-in-NamePair.ensures

pub returns-in-Pair : goal.returns-in-Pair
returns-in-Pair g c = λ m means.
    pair_outcome m _ (Literal _) _ c.args.expr.now c.outcome-in-Pair.result c.args.line _ (ap expr_of c.in-Pair.is)
    (c.pair_value-in-Pair.ensures m means ∙ ap (λ (p : Pair). values.both p.operator (values.primary_value m (symbol_of p.symbol)) (values.Constant p.number)) c.deref.ensures) c.outcome-in-Pair.ensures

pub returns-in-SymbolPair : goal.returns-in-SymbolPair
returns-in-SymbolPair g c = λ m means.
    pair_outcome m _ _ _ c.args.expr.now c.outcome-in-SymbolPair.result c.args.line _ (ap expr_of c.in-SymbolPair.is)
    (c.symbols_value.ensures m means ∙ ap (λ (p : SymbolPair). values.both p.operator (values.primary_value m (symbol_of p.left)) (values.primary_value m (symbol_of p.right))) c.deref-in-SymbolPair.ensures) c.outcome-in-SymbolPair.ensures
