use Rattle.std.proofs.Common.{ap, ◌∙◌}
use Rattle.rv_expression.specs.Expr.{tree_of_expr}
use Rattle.rv_pseudo.specs.Faults.{constant_in}
use Rattle.rv_instruction.specs.Scoped.{values_at}
use Rattle.rv_instruction.proofs.WorthsLemmas.{constant_worth}
use Rattle.rv_instruction.proofs.named.number_worth.Goals as goal

pub returns : goal.returns
returns c = λ index filled stands.
    let v = values_at c.args.scope.now index c.args.place (tree_of_expr c.args.expression.now) in
    ap constant_in (c.worth.ensures index filled stands c.args.line v (c.value-value.ensures index filled stands)) ∙ constant_worth _ v
