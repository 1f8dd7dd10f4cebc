-- The tokens left are those at the start.
use Rattle.std.proofs.Common.{◌≡◌, length}
use Rattle.rv_lexer.specs.Left.{tokens_left}
use Rattle.rv_lexer.proofs.lexer.Lexer.next_of_all.Given as goal

abbrev pub invariant-loop-lexeme : goal.invariant-loop-lexeme
invariant-loop-lexeme l = tokens_left l.initial.self ≡ tokens_left l.self

abbrev pub decreases-loop-lexeme : goal.decreases-loop-lexeme
decreases-loop-lexeme l = length l.self.rest.now
