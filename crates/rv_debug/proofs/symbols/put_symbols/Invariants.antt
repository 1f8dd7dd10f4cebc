use Rattle.std.proofs.Common.{◌≡◌, ◌+◌, ◌++◌, length, take, drop, map, All}
use Rattle.rv_map.specs.Views.{map_of}
use Rattle.rv_labels.specs.Known.{known_of}
use Rattle.rv_debug_laws.specs.Symbols.{IsKnownName, name_strings, symbols_from}
use Rattle.rv_debug.proofs.symbols.put_symbols.Given as goal

abbrev pub invariant-loop-known : goal.invariant-loop-known
invariant-loop-known l = record {
  written : l.out ++ symbols_from (map_of l.map) l.binding l.name (map known_of (drop l.known-index l.names))
      ≡ l.initial.out ++ symbols_from (map_of l.map) l.binding l.first (map known_of l.names);
  offset : l.name + length (name_strings (map known_of (drop l.known-index l.names))) ≡ l.first + length (name_strings (map known_of l.names));
  known : All (λ k. IsKnownName (known_of k)) (take l.known-index l.names);
}
