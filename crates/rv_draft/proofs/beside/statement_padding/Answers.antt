use Rattle.std.proofs.Common.{rules, ◌≡◌, ◌≤◌, ◌∙◌, true, sym, ap, subst}
use Rattle.std.specs.Prelude.{if◌then◌else◌}
use Rattle.rv_expression.specs.Expr.{tree_of_expr}
use Rattle.rv_statement.specs.View.{statement_kind}
use Rattle.rv_unit_laws.specs.Tables.{or_none, power_alignment, byte_alignment}
use Rattle.rv_source_laws.specs.Sizes.{code_padding}
use Rattle.rv_instruction.specs.Scoped.{values_at}
use Rattle.rv_draft.specs.Contents.{statement_padding}
use Rattle.rv_draft.proofs.BesideLemmas.{power_low, bytes_low}
use Rattle.rv_draft.proofs.beside.statement_padding.Goals as goal

pub returns-in-AlignsToPower-clause-is : goal.returns-in-AlignsToPower-clause-is
returns-in-AlignsToPower-clause-is c = λ index filled stands.
    let v = values_at c.args.scope.now index c.args.place in
    let w = v (tree_of_expr c.in-AlignsToPower.power) in
    let alignment = c.power_alignment.ensures w (c.value.ensures index filled stands) in
    let code : c.args.executable ≡ true = search rules in
    c.code_padding.ensures.is (subst (λ a. or_none a ≤ 4096) (sym alignment) (power_low w)) ∙ ap code_padding alignment
    ∙ ap (λ b. if b then code_padding (power_alignment w) else 0) (sym code)
    ∙ ap (λ k. statement_padding c.args.executable v (statement_kind k)) (sym c.in-AlignsToPower.is)

pub returns-in-AlignsToBytes-clause-is : goal.returns-in-AlignsToBytes-clause-is
returns-in-AlignsToBytes-clause-is c = λ index filled stands.
    let v = values_at c.args.scope.now index c.args.place in
    let w = v (tree_of_expr c.in-AlignsToBytes.bytes) in
    let alignment = c.byte_alignment.ensures w (c.value-in-AlignsToBytes.ensures index filled stands) in
    let code : c.args.executable ≡ true = search rules in
    c.code_padding-in-AlignsToBytes.ensures.is (subst (λ a. or_none a ≤ 4096) (sym alignment) (bytes_low w)) ∙ ap code_padding alignment
    ∙ ap (λ b. if b then code_padding (byte_alignment w) else 0) (sym code)
    ∙ ap (λ k. statement_padding c.args.executable v (statement_kind k)) (sym c.in-AlignsToBytes.is)
