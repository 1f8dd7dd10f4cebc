use Rattle.rv_relax.specs.Kept.{kept_in, moves_of}
use Rattle.rv_relax.proofs.RoomsLemmas.{one_more}
use Rattle.rv_relax.proofs.plan.paddings_of.Goals as goal

pub loop-section-preserved : goal.loop-section-preserved
loop-section-preserved c =
    one_more moves_of kept_in c.loop-section.plans.items c.push.new.self.items c.args.sections.now c.loop-section.section-index c.section-item.result c.in_ok-of.field-0 c.loop-section-test.true c.section-item.is
    c.in_ok-push.ensures.items c.in_ok-of.ensures c.loop-section.invariant
