-- The first token.
use Rattle.std.proofs.Common.{[], sym, ◌∙◌, ap}
use Rattle.rv_expression_laws.specs.Expression.{Literal, A_prefix}
use Rattle.rv_lexer.specs.Token.{kind_of}
use Rattle.rv_lexer.specs.Cursor.{remaining}
use Rattle.rv_isa.specs.Registers.{is_register}
use Rattle.rv_expression.specs.Nodes.{symbol_of}
use Rattle.rv_expression.specs.Expr.{begin_of, stack_of}
use Rattle.rv_expression.proofs.ExprsLemmas.{stack_none}
use Rattle.rv_expression.proofs.FrontsLemmas.{started, at_start, primary_step, minus_step}
use Rattle.rv_expression.proofs.reading.expression.Goals as goal

pub after_number-requires : goal.after_number-requires
after_number-requires c =
    started is_register c.args.cursor.now c.advance.new.self _ c.advance.ensures
    (primary_step is_register [] [] (kind_of c.args.cursor.now.next.kind) (begin_of c.begins.result) (Literal c.in-Number.number) c.begins.ensures (sym (ap begin_of c.in-Number.is)))

pub after_symbol-requires : goal.after_symbol-requires
after_symbol-requires c =
    started is_register c.args.cursor.now c.advance-in-Symbol.new.self _ c.advance-in-Symbol.ensures
    (primary_step is_register [] [] (kind_of c.args.cursor.now.next.kind) (begin_of c.begins.result) (symbol_of c.in-Symbol.symbol) c.begins.ensures (sym (ap begin_of c.in-Symbol.is)))

pub after_minus-requires : goal.after_minus-requires
after_minus-requires c =
    started is_register c.args.cursor.now c.advance-in-Prefix-Negate.new.self _ c.advance-in-Prefix-Negate.ensures
    (minus_step is_register (kind_of c.args.cursor.now.next.kind) (begin_of c.begins.result) c.begins.ensures
    (sym (ap begin_of c.in-Prefix-Negate.is ∙ ap (λ o. A_prefix o) c.in-Prefix-Negate.field-0-is)))

pub read_on-requires : goal.read_on-requires
read_on-requires c = at_start is_register (remaining c.args.cursor.now) c.new.result.items (ap stack_of c.new.ensures.items ∙ stack_none)
