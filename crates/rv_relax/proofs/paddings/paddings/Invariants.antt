use Rattle.std.proofs.Common.{◌≡◌, ℕ, ◌≤◌, ◌++◌, true, length, map, take, List}
use Rattle.rv_link_laws.specs.Moves.{plan}
use Rattle.rv_relax.specs.Pieces.{Piece}
use Rattle.rv_cut_laws.specs.Alignments.{are_alignments}
use Rattle.rv_relax.specs.Paddings.{are_in_order, move_of}
use Rattle.rv_relax.proofs.SortingLemmas.{backwards}
use Rattle.rv_relax.proofs.paddings.paddings.Given as goal

-- what is planned so far, and the plan of the rest, make up the whole; the rest stands behind what is planned
abbrev pub invariant-loop-rest : goal.invariant-loop-rest
invariant-loop-rest l =
    (l.rest ≤ length l.alignments)
    × (map move_of l.paddings.items ++ plan 0 l.gone (backwards (take l.rest l.alignments)) ≡ plan 0 0 (backwards l.alignments))
    × ((stop : ℕ) × (are_alignments stop (backwards (take l.rest l.alignments)) ≡ true) × (l.gone ≤ stop) × (l.dropped ≤ stop)
    × ((more : List Piece) → are_in_order stop l.dropped more ≡ true → are_in_order 0 0 (l.paddings.items ++ more) ≡ true))

abbrev pub decreases-loop-rest : goal.decreases-loop-rest
decreases-loop-rest l = l.rest
