use Rattle.std.proofs.Common.{ap, ◌∙◌}
use Rattle.rv_expression.specs.Expr.{tree_of_expr}
use Rattle.rv_statement.specs.View.{statement_kind}
use Rattle.rv_unit_laws.specs.Tables.{tables}
use Rattle.rv_unit.specs.Unit.{said}
use Rattle.rv_instruction.specs.Opened.{value_field}
use Rattle.rv_instruction.specs.Scoped.{values_at}
use Rattle.rv_instruction.proofs.OpenFieldsLemmas.{expression_fields, function_fields}
use Rattle.rv_instruction.proofs.opened.open_field.Goals as goal

pub returns-in-WithFunction : goal.returns-in-WithFunction
returns-in-WithFunction c = λ index filled stands same.
    let v = values_at c.args.scope.now index c.args.place in
    let x = tree_of_expr c.in-WithFunction.expression in
    c.to_function.ensures c.args.kind index filled stands same c.args.statement.now.line (v x) (c.value-value-in-WithFunction.ensures index filled stands)
    ∙ function_fields (tables (said c.args.scope.now.unit.now)) v c.args.ordinal (statement_kind c.args.statement.now.kind) c.in-WithFunction.field-0 c.in-WithFunction.function x c.args.kind
    (ap statement_kind c.in-WithFunction.is)

pub returns-in-With : goal.returns-in-With
returns-in-With c = λ index filled stands same.
    let v = values_at c.args.scope.now index c.args.place in
    let x = tree_of_expr c.in-With.expression in
    c.to_value.ensures c.args.statement.now.line (v x) (c.value-value.ensures index filled stands)
    ∙ ap (λ t. value_field t c.args.kind c.args.ordinal (v x)) c.takes_target.ensures
    ∙ expression_fields (tables (said c.args.scope.now.unit.now)) v c.args.ordinal (statement_kind c.args.statement.now.kind) c.in-With.operation x c.args.kind
    (ap statement_kind c.in-With.is)
