use Rattle.std.proofs.Common.{◌≡◌, ℕ, ◌≤◌, ◌++◌, true, drop}
use Rattle.rv_relax.specs.Paddings.{are_in_order, lost_sums}
use Rattle.rv_relax.proofs.losses.sums.Given as goal

-- the sums so far, and those of the rest, make up the whole; the rest stands behind as many bytes as instructions are lost, or more
abbrev pub invariant-loop-padding : goal.invariant-loop-padding
invariant-loop-padding l =
    (l.sums.items ++ lost_sums l.lost (drop l.padding-index l.paddings) ≡ lost_sums 0 l.paddings)
    × ((stop : ℕ) × (gone : ℕ) × (are_in_order stop gone (drop l.padding-index l.paddings) ≡ true) × (l.lost ≤ stop))
