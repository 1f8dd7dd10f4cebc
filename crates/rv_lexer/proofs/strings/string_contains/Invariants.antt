-- The byte stands in the rest where it stands at all.
use Rattle.std.proofs.Common.{◌≡◌, ◌==◌, length}
use Rattle.std.specs.List.{list_any}
use Rattle.rv_lexer.specs.Token.{string_bytes}
use Rattle.rv_lexer.proofs.strings.string_contains.Given as goal

abbrev pub invariant-loop-byte : goal.invariant-loop-byte
invariant-loop-byte l = list_any (λ byte. byte == l.wanted) (string_bytes l.rest) ≡ list_any (λ byte. byte == l.wanted) (string_bytes l.text)

abbrev pub decreases-loop-byte : goal.decreases-loop-byte
decreases-loop-byte l = length l.rest
