use Rattle.std.proofs.Common.{ap, sym, subst}
use Rattle.rv_expression.specs.Expr.{tree_of_expr}
use Rattle.rv_statement.specs.View.{statement_kind}
use Rattle.rv_pseudo.specs.Templates as is
use Rattle.rv_pseudo.proofs.expanding.expanded.Goals as goal

pub returns-in-Plain : goal.returns-in-Plain
returns-in-Plain c =
    let form = c.args.manner in
    subst (λ k. is.Answers (is.faults_by form k) (is.form_templates form k) c.without_operand.result) (sym (ap statement_kind c.in-Plain.is))
    (c.without_operand.ensures (is.constants_of form) (is.worths_of form) form.bytes)

pub returns-in-With : goal.returns-in-With
returns-in-With c =
    subst (λ k. is.Answers (is.faults_by c.args.manner k) (is.form_templates c.args.manner k) c.with_operand.result) (sym (ap statement_kind c.in-With.is))
    (c.with_operand.ensures (tree_of_expr c.in-With.field-1))

pub returns-in-WithFunction : goal.returns-in-WithFunction
returns-in-WithFunction c =
    subst (λ k. is.Answers (is.faults_by c.args.manner k) (is.form_templates c.args.manner k) c.with_operand-in-WithFunction.result) (sym (ap statement_kind c.in-WithFunction.is))
    (c.with_operand-in-WithFunction.ensures (tree_of_expr c.in-WithFunction.field-2))
