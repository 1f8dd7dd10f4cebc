use Rattle.std.proofs.Common.{take}
use Rattle.rv_labels.specs.Indices.{AreSpans}
use Rattle.rv_labels.proofs.spans.spans.Given as goal

abbrev pub invariant-loop-row : goal.invariant-loop-row
invariant-loop-row l = AreSpans l.spans (take l.row-index l.rows)
