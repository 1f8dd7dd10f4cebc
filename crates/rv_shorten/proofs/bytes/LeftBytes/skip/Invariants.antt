use Rattle.std.proofs.Common.{◌≡◌, length, drop}
use Rattle.rv_shorten.specs.Bytes.{left_bytes}
use Rattle.rv_shorten.proofs.bytes.LeftBytes.skip.Given as goal

-- what is still to be left out, taken from what is left
abbrev pub invariant-loop-run : goal.invariant-loop-run
invariant-loop-run l = drop l.wanted (left_bytes l.self) ≡ drop l.count (left_bytes l.initial.self)

abbrev pub decreases-loop-run : goal.decreases-loop-run
decreases-loop-run l = length (left_bytes l.self)
