use Rattle.std.proofs.Common.{◌≡◌, length}
use Rattle.rv_expression_laws.specs.ExpressionAt.{read_from}
use Rattle.rv_lexer.specs.Cursor.{remaining}
use Rattle.rv_isa.specs.Registers.{is_register}
use Rattle.rv_expression.specs.Expr.{stage_of}
use Rattle.rv_expression.proofs.reading.read_on.Given as goal

-- what the tokens left make of the stage is what all of them make
abbrev pub invariant-tokens : goal.invariant-tokens
invariant-tokens l = read_from is_register (stage_of l.fn.frames.items l.fn.stage) (remaining l.initial.cursor) ≡ read_from is_register (stage_of l.frames.items l.stage) (remaining l.cursor)

abbrev pub decreases-tokens : goal.decreases-tokens
decreases-tokens l = length (remaining l.cursor)
