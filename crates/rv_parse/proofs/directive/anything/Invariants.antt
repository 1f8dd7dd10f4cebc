use Rattle.std.proofs.Common.{◌≡◌, length}
use Rattle.rv_lexer.specs.Cursor.{remaining}
use Rattle.rv_parse_laws.specs.Parsing.{any_at}
use Rattle.rv_parse.proofs.directive.anything.Given as goal

-- what is left is read as all is
abbrev pub invariant-loop-cursor : goal.invariant-loop-cursor
invariant-loop-cursor l = any_at (remaining l.fn.cursor) ≡ any_at (remaining l.cursor)

abbrev pub decreases-loop-cursor : goal.decreases-loop-cursor
decreases-loop-cursor l = length (remaining l.cursor)
