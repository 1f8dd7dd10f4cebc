-- What the digits spell is what is left to read with what has been read.
use Rattle.std.proofs.Common.{◌≡◌, ◌<◌, ◌^◌, drop}
use Rattle.rv_expression_laws.specs.Front.{number_by}
use Rattle.rv_lexer.proofs.NumbersLemmas.{number_on}
use Rattle.rv_lexer.proofs.word.number_by.Given as goal

abbrev pub invariant-loop-byte : goal.invariant-loop-byte
invariant-loop-byte l = (number_by l.base l.digits ≡ number_on l.base l.number (drop l.byte-index l.digits)) × (l.number < 2 ^ 64)
