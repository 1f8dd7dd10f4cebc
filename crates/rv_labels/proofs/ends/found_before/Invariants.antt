use Rattle.std.proofs.Common.{◌≡◌, ◌≤◌, length, take}
use Rattle.rv_debug_laws.specs.Labels.{last_before}
use Rattle.rv_labels.proofs.ends.found_before.Given as goal

-- the last one is among the rows that are left
abbrev pub invariant-loop-count : goal.invariant-loop-count
invariant-loop-count l = (last_before l.section l.ordinal (take l.count l.rows) ≡ last_before l.section l.ordinal l.rows) × (l.count ≤ length l.rows)

abbrev pub decreases-loop-count : goal.decreases-loop-count
decreases-loop-count l = l.count
