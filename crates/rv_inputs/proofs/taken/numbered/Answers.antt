use Rattle.rv_list_laws.proofs.ElementsLemmas.{get_index_or}
use Rattle.rv_inputs.proofs.SelectionLemmas.{numbered_next}
use Rattle.rv_inputs.proofs.taken.numbered.Goals as goal

pub loop-i-preserved : goal.loop-i-preserved
loop-i-preserved c =
    numbered_next c.args.objects.now c.args.numbers.now c.loop-i.i _ _ c.loop-i.taken.items c.push.new.self.items c.loop-i-test.true
    (c.requires c.loop-i.i _ (get_index_or c.args.numbers.now c.loop-i.i _ c.loop-i-test.true)) c.in_ok-push.ensures.items c.loop-i.invariant
