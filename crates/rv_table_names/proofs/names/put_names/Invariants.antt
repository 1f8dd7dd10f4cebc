use Rattle.std.proofs.Common.{◌≡◌, ◌++◌, drop, map}
use Rattle.rv_labels.specs.Known.{known_of}
use Rattle.rv_table_names.specs.Tables.{wanted_names}
use Rattle.rv_table_names.specs.Views.{tabled_of}
use Rattle.rv_table_names.proofs.names.put_names.Given as goal

abbrev pub invariant-loop-object : goal.invariant-loop-object
invariant-loop-object l =
    map known_of l.names.items ++ wanted_names l.binding (map tabled_of (drop l.object-index l.objects))
    ≡ map known_of l.initial.names.items ++ wanted_names l.binding (map tabled_of l.objects)
