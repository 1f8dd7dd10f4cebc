use Rattle.std.proofs.Common.{ap}
use Rattle.rv_expression.specs.Expr.{tree_of_expr}
use Rattle.rv_statement.specs.View.{statement_kind}
use Rattle.rv_instruction.proofs.FreeRowsLemmas.{plain_free, with_free}
use Rattle.rv_instruction.proofs.opened.is_closed.Goals as goal

pub returns-in-Plain : goal.returns-in-Plain
returns-in-Plain c = λ is. plain_free c.in-Plain.field-0 (statement_kind c.args.kind.now) (ap statement_kind c.in-Plain.is)

pub returns-in-With : goal.returns-in-With
returns-in-With c =
    with_free c.in-With.operation (tree_of_expr c.in-With.field-1) (statement_kind c.args.kind.now) c.takes_number.result (ap statement_kind c.in-With.is) c.takes_number.ensures
