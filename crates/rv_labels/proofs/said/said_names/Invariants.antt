use Rattle.std.proofs.Common.{map, take}
use Rattle.rv_labels.specs.Indices.{AreSaid}
use Rattle.rv_labels.specs.Known.{mark_of}
use Rattle.rv_labels.proofs.said.said_names.Given as goal

abbrev pub invariant-loop-mark : goal.invariant-loop-mark
invariant-loop-mark l = AreSaid l.said (map mark_of (take l.mark-index l.marks))
