use Rattle.std.proofs.Common.{◌≡◌, ◌<◌, ℕ, take, All}
use Rattle.rv_counts.specs.Rows.{sum_of}
use Rattle.rv_counts.specs.Sums.{at_address, calls_at}
use Rattle.rv_counts.proofs.calls.calls_of.Given as goal

abbrev pub invariant-loop-row : goal.invariant-loop-row
invariant-loop-row l =
    ((address : ℕ) → calls_at address l.called.items ≡ sum_of (at_address address) (λ row. row.calls) (take l.row-index l.rows)) × All (λ t. 0 < t.count) l.called.items
