-- The bytes appended so far and those of the rest are the string's.
use Rattle.std.proofs.Common.{◌≡◌, ℕ, List, ◌++◌, length}
use Rattle.rv_lexer.specs.Token.{string_bytes}
use Rattle.rv_lexer.proofs.strings.append_each.Given as goal

abbrev pub invariant-loop-byte : goal.invariant-loop-byte
invariant-loop-byte l =
    (first : List ℕ) × (l.bytes.items ≡ l.initial.bytes.items ++ first) × (string_bytes l.text ≡ first ++ string_bytes l.rest)

abbrev pub decreases-loop-byte : goal.decreases-loop-byte
decreases-loop-byte l = length l.rest
