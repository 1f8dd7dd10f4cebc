use Rattle.std.proofs.Common.{◌≡◌, ◌≤◌, length}
use Rattle.rv_expression_laws.specs.SyntaxError.{longest_name}
use Rattle.rv_lexer.specs.Cursor.{remaining}
use Rattle.rv_parse_laws.specs.Parsing.{too_long}
use Rattle.rv_parse.proofs.slot.too_long.Given as goal

-- no token so far is too many
abbrev pub invariant-loop-ahead : goal.invariant-loop-ahead
invariant-loop-ahead l = record {
  same : too_long 0 (remaining l.fn.cursor) ≡ too_long l.bytes (remaining l.ahead);
  within : l.bytes ≤ longest_name;
}

abbrev pub decreases-loop-ahead : goal.decreases-loop-ahead
decreases-loop-ahead l = length (remaining l.ahead)
