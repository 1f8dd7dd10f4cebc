-- The token after the operator.
use Rattle.std.proofs.Common.{[], ◌∷◌, sym, ap}
use Rattle.rv_expression_laws.specs.Expression.{Literal, Primary_node}
use Rattle.rv_expression_laws.specs.declared.operator.Frame.TheVariants.{Infix}
use Rattle.rv_lexer.specs.Token.{kind_of}
use Rattle.rv_isa.specs.Registers.{is_register}
use Rattle.rv_expression.specs.Nodes.{symbol_of}
use Rattle.rv_expression.specs.Expr.{begin_of}
use Rattle.rv_expression.proofs.FrontsLemmas.{continued, primary_step}
use Rattle.rv_expression.proofs.front.after_operator.Goals as goal

pub after_pair-requires : goal.after_pair-requires
after_pair-requires c =
    continued is_register c.args.cursor.now c.advance.new.self _ _ c.requires c.advance.ensures
    (primary_step is_register (Infix c.args.operator ∷ []) (Primary_node (symbol_of c.args.symbol) ∷ []) (kind_of c.args.cursor.now.next.kind) (begin_of c.begins.result) (Literal c.in-Number.number) c.begins.ensures (sym (ap begin_of c.in-Number.is)))

pub after_two-requires : goal.after_two-requires
after_two-requires c =
    continued is_register c.args.cursor.now c.advance-in-Symbol.new.self _ _ c.requires c.advance-in-Symbol.ensures
    (primary_step is_register (Infix c.args.operator ∷ []) (Primary_node (symbol_of c.args.symbol) ∷ []) (kind_of c.args.cursor.now.next.kind) (begin_of c.begins.result) (symbol_of c.in-Symbol.other) c.begins.ensures (sym (ap begin_of c.in-Symbol.is)))
