use Rattle.std.proofs.Common.{◌≡◌, take}
use Rattle.rv_size_laws.specs.Branches.{smallest_sizes}
use Rattle.rv_sizes.proofs.sizes.smallest.Given as goal

abbrev pub invariant-loop-i : goal.invariant-loop-i
invariant-loop-i l = l.sizes.items ≡ smallest_sizes (take l.i l.items)
