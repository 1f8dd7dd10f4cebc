use Rattle.std.proofs.Common.{◌≡◌, ◌++◌, drop, map}
use Rattle.rv_labels.specs.Known.{known_of}
use Rattle.rv_debug_laws.specs.Symbols.{name_strings}
use Rattle.rv_debug.proofs.symbols.put_names.Given as goal

abbrev pub invariant-loop-known : goal.invariant-loop-known
invariant-loop-known l =
    l.strings.items ++ name_strings (map known_of (drop l.known-index l.names)) ≡ l.initial.strings.items ++ name_strings (map known_of l.names)
