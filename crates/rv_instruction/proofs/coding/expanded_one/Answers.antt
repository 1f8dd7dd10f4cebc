use Rattle.std.proofs.Common.{ap}
use Rattle.rv_list_laws.proofs.OptionsLemmas.{if_some_weaker}
use Rattle.rv_expression.specs.Expr.{tree_of_expr}
use Rattle.rv_statement.specs.View.{statement_of, statement_kind}
use Rattle.rv_instruction.specs.Code.{alone}
use Rattle.rv_instruction.specs.Scoped.{values_at, labels_at}
use Rattle.rv_instruction.proofs.StatementKindsLemmas.{plain_expanded}
use Rattle.rv_instruction.proofs.OneInstructionLemmas.{one_expanded}
use Rattle.rv_instruction.proofs.coding.expanded_one.Goals as goal

pub returns-in-Plain-clause-built : goal.returns-in-Plain-clause-built
returns-in-Plain-clause-built c =
    if_some_weaker _ _ (λ i are index filled stands bytes.
    plain_expanded c.in-Plain.statement (statement_of c.args.statement.now) bytes (values_at c.args.scope.now index c.args.place) (labels_at c.args.scope.now index) c.args.compressed (alone i)
    (ap statement_kind c.in-Plain.is) are)
    c.bare_one.result c.bare_one.ensures.is

pub returns-in-With-clause-built : goal.returns-in-With-clause-built
returns-in-With-clause-built c =
    if_some_weaker _ _ (λ i one index filled stands bytes.
    one_expanded c.in-With.operation (tree_of_expr c.in-With.expression) (statement_of c.args.statement.now) (values_at c.args.scope.now index c.args.place) (labels_at c.args.scope.now index) c.args.compressed bytes i
    (ap statement_kind c.in-With.is) (one index filled stands))
    c.operand_one.result c.operand_one.ensures.one
