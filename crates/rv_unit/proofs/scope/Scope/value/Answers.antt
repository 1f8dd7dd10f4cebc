use Rattle.std.proofs.Common.{◌∙◌, ◌+◌, ap, true}
use Rattle.rv_expression_laws.specs.Expression.{Literal}
use Rattle.rv_expression.specs.Expr.{tree_of_expr}
use Rattle.rv_expression.proofs.EvalsLemmas.{lone_value, negative_value}
use Rattle.rv_unit_laws.specs.Tables as laws
use Rattle.rv_unit.specs.Sections.{offset_of}
use Rattle.rv_unit.specs.Unit.{said}
use Rattle.rv_unit.proofs.scope.Scope.value.Goals as goal

pub returns-in-Number : goal.returns-in-Number
returns-in-Number c = λ i f s.
    let t = laws.tables (said c.args.self.now.unit.now) in
    let p = offset_of c.args.place in
    ap (λ e. laws.value_by_tables t true (i + 1) p (tree_of_expr e)) c.in-Number.is ∙ lone_value (λ q. laws.meaning t true (i + 1) p q) (Literal c.in-Number.number)

pub returns-in-Negative : goal.returns-in-Negative
returns-in-Negative c = λ i f s.
    let t = laws.tables (said c.args.self.now.unit.now) in
    let p = offset_of c.args.place in
    ap (λ e. laws.value_by_tables t true (i + 1) p (tree_of_expr e)) c.in-Negative.is ∙ negative_value (λ q. laws.meaning t true (i + 1) p q) c.in-Negative.number
