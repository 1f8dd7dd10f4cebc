use Rattle.std.proofs.Common.{◌≡◌, ◌+◌, ◌++◌, List, drop, map}
use Rattle.rv_map_laws.specs.declared.map.Row.{Row as MapRow}
use Rattle.rv_debug_laws.specs.Labels.{names_from}
use Rattle.rv_labels.specs.Indices.{AreSpans}
use Rattle.rv_labels.specs.Known.{described_of, known_of}
use Rattle.rv_labels.proofs.objects.object_names.Given as goal

abbrev pub invariant-loop-object : goal.invariant-loop-object
invariant-loop-object l = record {
  counted : l.file ≡ l.object-index;
  whole : (known : List MapRow) → AreSpans l.spans known
      → map known_of l.names.items ++ names_from l.shared known (l.file + 1) (map described_of (drop l.object-index l.objects))
      ≡ names_from l.shared known 1 (map described_of l.objects);
}
