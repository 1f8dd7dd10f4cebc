use Rattle.std.proofs.Common.{◌∙◌, ap, true}
use Rattle.rv_expression_laws.specs.Expression.{Literal}
use Rattle.rv_expression.specs.Expr.{tree_of_expr}
use Rattle.rv_expression.proofs.EvalsLemmas.{lone_value, negative_value}
use Rattle.rv_unit_laws.specs.Faults.{value_faults}
use Rattle.rv_unit_laws.specs.Tables as laws
use Rattle.rv_unit.specs.Unit.{said}
use Rattle.rv_unit.proofs.unit.Unit.is_faultless.Goals as goal

pub returns-in-Number : goal.returns-in-Number
returns-in-Number c = λ width o p f h.
    let t = laws.tables (said c.args.self.now) in
    ap (value_faults width) (ap (λ e. laws.value_by_tables t true o p (tree_of_expr e)) c.in-Number.is ∙ lone_value (λ q. laws.meaning t true o p q) (Literal c.in-Number.field-0))

pub returns-in-Negative : goal.returns-in-Negative
returns-in-Negative c = λ width o p f h.
    let t = laws.tables (said c.args.self.now) in
    ap (value_faults width) (ap (λ e. laws.value_by_tables t true o p (tree_of_expr e)) c.in-Negative.is ∙ negative_value (λ q. laws.meaning t true o p q) c.in-Negative.field-0)
