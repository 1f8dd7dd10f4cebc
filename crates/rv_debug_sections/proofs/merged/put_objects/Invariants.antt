use Rattle.std.proofs.Common.{◌≡◌, drop}
use Rattle.rv_debug_laws.specs.Carried.{with_objects}
use Rattle.rv_debug_sections.specs.Views.{all_merged}
use Rattle.rv_debug_sections.proofs.merged.put_objects.Given as goal

abbrev pub invariant-loop-object : goal.invariant-loop-object
invariant-loop-object l =
    with_objects l.objects (all_merged l.initial.merged.items) ≡ with_objects (drop l.object-index l.objects) (all_merged l.merged.items)
