use Rattle.std.proofs.Common.{◌∙◌, sym, subst}
use Rattle.std.proofs.lemmas.Option.{IfSome_then}
use Rattle.std.specs.Prelude.{IfSome}
use Rattle.rv_expression.specs.Expr.{tree_of_expr}
use Rattle.rv_statement.specs.View.{statement_kind}
use Rattle.rv_draft.specs.Measure.{HasOneLength}
use Rattle.rv_draft.proofs.WordsLemmas.{no_code_told}
use Rattle.rv_draft.proofs.measure.told_length.Goals as goal

pub returns-then-not-is_instruction : goal.returns-then-not-is_instruction
returns-then-not-is_instruction c = no_code_told c.args.kind.now c.args.compressed (sym c.is_instruction.ensures ∙ c.if-not-is_instruction.true)

pub returns-in-Plain : goal.returns-in-Plain
returns-in-Plain c =
    subst (λ k. IfSome c.plain_length.result (λ n. HasOneLength c.args.compressed (statement_kind k) n)) (sym c.in-Plain.is) c.plain_length.ensures

pub returns-in-With : goal.returns-in-With
returns-in-With c =
    subst (λ k. IfSome c.operation_length.result (λ n. HasOneLength c.args.compressed (statement_kind k) n)) (sym c.in-With.is)
    (IfSome_then c.operation_length.result c.operation_length.ensures (λ n told. (told (tree_of_expr c.in-With.field-1)).0))

pub returns-in-WithFunction : goal.returns-in-WithFunction
returns-in-WithFunction c =
    subst (λ k. IfSome c.operation_length-in-WithFunction.result (λ n. HasOneLength c.args.compressed (statement_kind k) n)) (sym c.in-WithFunction.is)
    (IfSome_then c.operation_length-in-WithFunction.result c.operation_length-in-WithFunction.ensures
    (λ n told. (told (tree_of_expr c.in-WithFunction.field-2)).1 c.in-WithFunction.field-1))
