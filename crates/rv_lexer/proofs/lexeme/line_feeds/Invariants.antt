-- The line feeds so far and those that are left are those of the whole.
use Rattle.std.proofs.Common.{◌≡◌, ◌+◌, ◌≤◌, drop}
use Rattle.rv_expression_laws.specs.Lexing.{newlines}
use Rattle.rv_lexer.proofs.lexeme.line_feeds.Given as goal

abbrev pub invariant-loop-byte : goal.invariant-loop-byte
invariant-loop-byte l = (l.count ≤ l.byte-index) × (l.count + newlines (drop l.byte-index l.bytes) ≡ newlines l.bytes)
