-- The powers that are left have what all have.
use Rattle.std.proofs.Common.{◌≡◌, ◌≤◌}
use Rattle.rv_unit_laws.specs.Tables.{is_power_below}
use Rattle.rv_unit.proofs.align.is_power_below.Given as goal

abbrev pub invariant-loop-remaining : goal.invariant-loop-remaining
invariant-loop-remaining l = (l.remaining ≤ l.power) × (is_power_below l.remaining l.number ≡ is_power_below l.power l.number)

abbrev pub decreases-loop-remaining : goal.decreases-loop-remaining
decreases-loop-remaining l = l.remaining
