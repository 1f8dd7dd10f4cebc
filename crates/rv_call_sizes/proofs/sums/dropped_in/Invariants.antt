use Rattle.std.proofs.Common.{◌≡◌, ◌+◌}
use Rattle.rv_size_laws.specs.Offsets.{offset}
use Rattle.rv_call_sizes.specs.Passes.{drops}
use Rattle.rv_call_sizes.proofs.sums.dropped_in.Given as goal

abbrev pub invariant-loop-i : goal.invariant-loop-i
invariant-loop-i l = offset (drops l.sites l.kept) l.i ≡ offset (drops l.sites l.kept) l.from + l.sum
