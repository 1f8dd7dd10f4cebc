use Rattle.std.proofs.Common.{◌≡◌, ◌++◌, drop, map}
use Rattle.rv_object_types.specs.Parts.{symbol_of}
use Rattle.rv_labels.specs.Known.{known_of}
use Rattle.rv_table_names.specs.Tables.{names_from, object_names}
use Rattle.rv_table_names.specs.Views.{tabled_of}
use Rattle.rv_table_names.proofs.names.put_object.Given as goal

abbrev pub invariant-loop-index : goal.invariant-loop-index
invariant-loop-index l =
    map known_of l.names.items ++ names_from l.binding (tabled_of l.object) l.index (map symbol_of (drop l.index l.object.symbols.now))
    ≡ map known_of l.initial.names.items ++ object_names l.binding (tabled_of l.object)
