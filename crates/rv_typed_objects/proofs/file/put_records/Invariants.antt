use Rattle.std.proofs.Common.{◌≡◌, ◌++◌, List, drop, flat_map}
use Rattle.rv_elf_laws.specs.Records.{symbol_bytes}
use Rattle.rv_object_types.specs.View.{object_of}
use Rattle.rv_debug_laws.specs.Labels.{Mark}
use Rattle.rv_labels.specs.Indices.{AreSaid}
use Rattle.rv_typed_objects.specs.Typed.{typed_records}
use Rattle.rv_typed_objects.proofs.file.put_records.Given as goal

abbrev pub invariant-loop-index : goal.invariant-loop-index
invariant-loop-index l = (marks : List Mark) → AreSaid l.said marks
    → l.out ++ flat_map symbol_bytes (typed_records (object_of l.object) marks l.index (drop l.index l.records))
    ≡ l.initial.out ++ flat_map symbol_bytes (typed_records (object_of l.object) marks 0 l.records)
