use Rattle.std.proofs.Common.{ap, ◌∙◌}
use Rattle.std.specs.List.{list_all}
use Rattle.rv_relax.specs.Kept.{moves_of}
use Rattle.rv_relax.proofs.OrderLemmas.{moves_roomy}
use Rattle.rv_relax.proofs.PiecedLemmas.{fits}
use Rattle.rv_relax.proofs.section_paddings.SectionPaddings.is_roomy.Goals as goal

pub returns : goal.returns
unfolding moves_of
returns c =
    let plan = c.args.self.now in
    c.have_room.ensures ∙ ap (list_all fits) c.deref.ensures.value ∙ moves_roomy 0 0 plan.paddings.items plan.order
