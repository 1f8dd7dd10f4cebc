use Rattle.std.proofs.Common.{map, ap, ◌∙◌}
use Rattle.std.specs.Global.{Vec}
use Rattle.rv_shorten.specs.declared.object.ShortObject.{ShortObject}
use Rattle.rv_relax.specs.declared.section_paddings.SectionPaddings.{SectionPaddings}
use Rattle.rv_relax.specs.Kept.{kept_in, moves_of}
use Rattle.rv_relax.proofs.RoomsLemmas.{one_more}
use Rattle.rv_relax.proofs.plan.paddings_of_all.Goals as goal

pub loop-object-preserved : goal.loop-object-preserved
loop-object-preserved c =
    one_more (λ (f : Vec SectionPaddings). map moves_of f.items) (λ (o : ShortObject). map kept_in o.sections.items) c.loop-object.plans.items c.push.new.self.items c.args.objects.now c.loop-object.object-index c.object-item.result
    c.in_ok-paddings_of.field-0 c.loop-object-test.true c.object-item.is c.in_ok-push.ensures.items (c.in_ok-paddings_of.ensures ∙ ap (map kept_in) c.as_slice.ensures.value) c.loop-object.invariant
