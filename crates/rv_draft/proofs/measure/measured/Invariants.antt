use Rattle.std.proofs.Common.{◌≡◌, length}
use Rattle.rv_unit.specs.Unit.{said, IsScope}
use Rattle.rv_draft.proofs.SeenLemmas.{MeasuredTo}
use Rattle.rv_draft.proofs.measure.measured.Given as goal

-- what sizes see of the first statements, and the scope of the next
abbrev pub invariant-loop-index : goal.invariant-loop-index
invariant-loop-index l =
    (l.scope.unit.now ≡ l.unit) × IsScope l.scope l.index × MeasuredTo (said l.unit) l.index l.items × (length l.items ≡ l.index)
