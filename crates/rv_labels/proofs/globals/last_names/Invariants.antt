use Rattle.std.proofs.Common.{map, take}
use Rattle.rv_labels.specs.Indices.{AreLast}
use Rattle.rv_labels.specs.Known.{known_of}
use Rattle.rv_labels.proofs.globals.last_names.Given as goal

abbrev pub invariant-loop-name : goal.invariant-loop-name
invariant-loop-name l = AreLast l.last (map known_of (take l.name-index l.names))
