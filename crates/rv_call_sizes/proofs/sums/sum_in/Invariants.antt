use Rattle.std.proofs.Common.{◌≡◌, ◌+◌}
use Rattle.rv_size_laws.specs.Offsets.{offset}
use Rattle.rv_call_sizes.proofs.sums.sum_in.Given as goal

abbrev pub invariant-loop-i : goal.invariant-loop-i
invariant-loop-i l = offset l.numbers l.i ≡ offset l.numbers l.from + l.sum
