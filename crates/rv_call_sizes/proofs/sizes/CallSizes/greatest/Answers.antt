use Rattle.std.proofs.Common.{arith}
use Rattle.rv_call_sizes.proofs.sizes.CallSizes.greatest.Goals as goal

pub settle-requires-clause-many : goal.settle-requires-clause-many
settle-requires-clause-many c =
    let targets = c.in_ok-targets.targets in
    omega (arith, targets.ok, targets.small, c.in_ok-targets.ensures.same_length)
