use Rattle.std.proofs.Common.{◌≡◌, map, take}
use Rattle.rv_map.specs.Views.{global_of}
use Rattle.rv_debug_laws.specs.Labels.{known_global}
use Rattle.rv_labels.specs.Known.{known_of}
use Rattle.rv_labels.proofs.globals.known_globals.Given as goal

abbrev pub invariant-loop-global : goal.invariant-loop-global
invariant-loop-global l = map known_of l.known.items ≡ map (known_global (map known_of l.names)) (map global_of (take l.global-index l.globals))
