use Rattle.std.proofs.Common.{◌≡◌, take}
use Rattle.rv_counts.specs.Rows.{at_branch, capped, sum_of}
use Rattle.rv_counts.proofs.branches.branches_of.Given as goal

abbrev pub invariant-loop-row : goal.invariant-loop-row
invariant-loop-row l =
    (l.executed ≡ capped (sum_of at_branch (λ row. row.count) (take l.row-index l.rows)))
    × (l.taken ≡ capped (sum_of at_branch (λ row. row.taken) (take l.row-index l.rows)))
