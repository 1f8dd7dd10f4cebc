use Rattle.std.proofs.Common.{map, take, ◌∙◌, arith}
use Rattle.rv_inputs.specs.Naming.{offer_name}
use Rattle.rv_inputs.proofs.ChainLemmas.{names_long, falls_more, chains_step}
use Rattle.rv_inputs.proofs.chains.Chains.of.Goals as goal

pub loop-i-preserved : goal.loop-i-preserved
loop-i-preserved c =
    let xs = c.args.offers.now in let i = c.loop-i.i in
    let long = names_long offer_name xs i (omega (arith, c.loop-i-test.true)) in
    let was = c.loop-i.invariant in record {
      chains = chains_step c.put.new.last c.loop-i.before.items c.push.new.self.items c.in_ok-put.field-0 xs i _ c.loop-i-test.true c.in_ok-push.ensures.items
          (c.in_ok-put.ensures.chains c.loop-i.before.items (map offer_name (take i xs)) long was.chains);
      falls = falls_more c.loop-i.before.items c.push.new.self.items c.in_ok-put.field-0 i c.in_ok-push.ensures.items (was.chains.long ∙ long) was.falls
          (c.in_ok-put.ensures.below c.loop-i.before.items (map offer_name (take i xs)) long was.chains);
    }
