use Rattle.std.proofs.Common.{◌≤◌, ◌-◌, [], length, take}
use Rattle.rv_system.specs.Painting.{IsPainting}
use Rattle.rv_system.proofs.painting.put_words.Given as goal

abbrev pub invariant-loop-at : goal.invariant-loop-at
invariant-loop-at l =
    (l.at ≤ length l.text) × (IsPainting l.initial.painted.items [] → IsPainting l.painted.items (take l.at l.text))

abbrev pub decreases-loop-at : goal.decreases-loop-at
decreases-loop-at l = length l.text - l.at
