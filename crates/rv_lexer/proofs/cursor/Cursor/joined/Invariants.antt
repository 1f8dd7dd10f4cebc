-- The name so far is a part of the bytes.
use Rattle.std.proofs.Common.{length}
use Rattle.rv_expression_laws.proofs.JoinsLemmas.{Joining}
use Rattle.rv_lexer.specs.Cursor.{remaining}
use Rattle.rv_lexer.proofs.cursor.Cursor.joined.Given as goal

abbrev pub invariant-loop-self : goal.invariant-loop-self
invariant-loop-self l = Joining l.before.at l.before.rest.now (remaining l.fn.self) l.start l.stop (remaining l.self)

abbrev pub decreases-loop-self : goal.decreases-loop-self
decreases-loop-self l = length (remaining l.self)
