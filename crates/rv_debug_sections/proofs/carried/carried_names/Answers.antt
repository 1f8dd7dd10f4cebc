use Rattle.std.proofs.Common.{ap}
use Rattle.rv_debug_laws.specs.CarriedNames.{carried_names_of}
use Rattle.rv_debug_sections.proofs.carried.carried_names.Goals as goal

pub loop-object-init : goal.loop-object-init
loop-object-init c = ap (carried_names_of c.args.objects.now) c.in_ok-names.ensures
