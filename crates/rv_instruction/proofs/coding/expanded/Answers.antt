use Rattle.std.proofs.Common.{ap, refl}
use Rattle.rv_expression.specs.Expr.{tree_of_expr}
use Rattle.rv_statement.specs.View.{statement_of, statement_kind}
use Rattle.rv_instruction.specs.Scoped.{values_at, labels_at}
use Rattle.rv_instruction.proofs.coding.expanded.Goals as goal

pub returns-in-Plain-clause-built : goal.returns-in-Plain-clause-built
returns-in-Plain-clause-built c = λ index filled stands.
    let v = values_at c.args.scope.now index c.args.place in
    let l = labels_at c.args.scope.now index in
    c.bare.ensures.built (statement_of c.args.statement.now) c.args.bytes v l (ap statement_kind c.in-Plain.is) refl

pub returns-in-With-clause-built : goal.returns-in-With-clause-built
returns-in-With-clause-built c = λ index filled stands.
    let v = values_at c.args.scope.now index c.args.place in
    c.with_value.ensures.built index (statement_of c.args.statement.now) v (tree_of_expr c.in-With.expression) filled stands (c.value-value.ensures index filled stands) (ap statement_kind c.in-With.is) refl

pub returns-in-WithFunction-clause-built : goal.returns-in-WithFunction-clause-built
returns-in-WithFunction-clause-built c = λ index filled stands.
    let v = values_at c.args.scope.now index c.args.place in
    c.with_value-in-WithFunction.ensures.built index (statement_of c.args.statement.now) v (tree_of_expr c.in-WithFunction.expression) filled stands
    (c.value-value-in-WithFunction.ensures index filled stands) (ap statement_kind c.in-WithFunction.is) refl
