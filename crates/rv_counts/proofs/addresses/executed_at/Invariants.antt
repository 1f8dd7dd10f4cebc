use Rattle.std.proofs.Common.{◌≡◌, take}
use Rattle.rv_counts.specs.Sums.{at_address, executed_in}
use Rattle.rv_counts.proofs.addresses.executed_at.Given as goal

abbrev pub invariant-loop-row : goal.invariant-loop-row
invariant-loop-row l = l.sum ≡ executed_in (take l.row-index l.rows) (at_address l.address)
