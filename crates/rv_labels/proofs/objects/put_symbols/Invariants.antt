use Rattle.std.proofs.Common.{◌≡◌, ◌++◌, List, drop, map, flat_map}
use Rattle.rv_map_laws.specs.declared.map.Row.{Row as MapRow}
use Rattle.rv_object_laws.specs.declared.row.Row.{Row}
use Rattle.rv_object_types.specs.Parts.{symbol_of}
use Rattle.rv_debug_laws.specs.Labels.{Mark, symbol_names}
use Rattle.rv_labels.specs.Indices.{ArePlaces}
use Rattle.rv_labels.specs.Known.{known_of}
use Rattle.rv_labels.proofs.objects.put_symbols.Given as goal

abbrev pub invariant-loop-symbol : goal.invariant-loop-symbol
invariant-loop-symbol l = (known : List MapRow) (rows : List Row) (marks : List Mark) → ArePlaces l.places known rows marks
    → map known_of l.names.items ++ flat_map (symbol_names l.shared known l.places.file rows marks) (map symbol_of (drop l.symbol-index l.symbols))
    ≡ map known_of l.initial.names.items ++ flat_map (symbol_names l.shared known l.places.file rows marks) (map symbol_of l.symbols)
