use Rattle.std.proofs.Common.{ap, Some, None}
use Rattle.rv_expression.specs.Expr.{tree_of_expr}
use Rattle.rv_statement.specs.View.{statement_kind}
use Rattle.rv_assemble_laws.specs.Coded.{constants}
use Rattle.rv_instruction.specs.Scoped.{values_at}
use Rattle.rv_instruction.proofs.NamedLemmas.{statement_form}
use Rattle.rv_instruction.proofs.named.expression_worth.Goals as goal

pub returns-in-With : goal.returns-in-With
returns-in-With c = λ index filled stands.
    statement_form c.in-With.field-0 None (constants (values_at c.args.scope.now index c.args.place)) (tree_of_expr c.in-With.expression) (statement_kind c.args.statement.now.kind) _
    (ap statement_kind c.in-With.is) (c.number_worth.ensures index filled stands)

pub returns-in-WithFunction : goal.returns-in-WithFunction
returns-in-WithFunction c = λ index filled stands.
    statement_form c.in-WithFunction.field-0 (Some c.in-WithFunction.field-1) (constants (values_at c.args.scope.now index c.args.place)) (tree_of_expr c.in-WithFunction.expression) (statement_kind c.args.statement.now.kind) _
    (ap statement_kind c.in-WithFunction.is) (c.number_worth-in-WithFunction.ensures index filled stands)
