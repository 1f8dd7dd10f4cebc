use Rattle.std.proofs.Common.{◌≡◌, drop}
use Rattle.rv_debug_laws.specs.CarriedNames.{carried_names, carried_names_of}
use Rattle.rv_debug_sections.specs.Views.{all_names}
use Rattle.rv_debug_sections.proofs.carried.carried_names.Given as goal

abbrev pub invariant-loop-object : goal.invariant-loop-object
invariant-loop-object l = carried_names_of (drop l.object-index l.objects) (all_names l.names.items) ≡ carried_names l.objects
