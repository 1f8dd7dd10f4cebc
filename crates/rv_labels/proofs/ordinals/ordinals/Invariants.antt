use Rattle.std.proofs.Common.{take}
use Rattle.rv_labels.specs.Indices.{AreOrdinals}
use Rattle.rv_labels.proofs.ordinals.ordinals.Given as goal

abbrev pub invariant-loop-row : goal.invariant-loop-row
invariant-loop-row l = AreOrdinals l.ordinals (take l.row-index l.rows)
