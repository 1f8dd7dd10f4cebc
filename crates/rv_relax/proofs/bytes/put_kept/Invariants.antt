use Rattle.std.proofs.Common.{◌≡◌, ℕ, ◌++◌, true, map, drop}
use Rattle.rv_link_laws.specs.Moves.{kept}
use Rattle.rv_relax.specs.Paddings.{are_in_order, move_of}
use Rattle.rv_shorten.specs.Bytes.{left_bytes}
use Rattle.rv_relax.proofs.bytes.put_kept.Given as goal

-- what is kept so far, and what is kept of the rest, make up the whole; the rest stands behind what is done
abbrev pub invariant-loop-padding : goal.invariant-loop-padding
invariant-loop-padding l =
    (l.out.items ++ kept l.at (map move_of (drop l.padding-index l.paddings)) (left_bytes l.bytes) ≡ l.initial.out.items ++ kept 0 (map move_of l.paddings) (left_bytes l.initial.bytes))
    × ((gone : ℕ) × (are_in_order l.at gone (drop l.padding-index l.paddings) ≡ true))
