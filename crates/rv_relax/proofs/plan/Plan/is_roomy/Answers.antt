use Rattle.std.proofs.Common.{◌∙◌}
use Rattle.rv_relax.proofs.RoomsLemmas.{rooms}
use Rattle.rv_relax.proofs.plan.Plan.is_roomy.Goals as goal

pub returns : goal.returns
returns c =
    let plan = c.args.self.now in
    c.has_rooms.ensures ∙ rooms plan.paddings.items plan.objects.items plan.planned
