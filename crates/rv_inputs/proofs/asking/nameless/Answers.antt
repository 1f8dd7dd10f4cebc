use Rattle.std.proofs.Common.{map, arith}
use Rattle.std.proofs.lemmas.List.{length-map}
use Rattle.rv_inputs.specs.Naming.{offer_name}
use Rattle.rv_inputs.proofs.ChainLemmas.{get_inside, named_not_none}
use Rattle.rv_inputs.proofs.asking.nameless.Goals as goal

pub loop-i-preserved-then-is_some : goal.loop-i-preserved-then-is_some
loop-i-preserved-then-is_some c = λ j less here.
    named_not_none c.args.offers.now c.loop-i.i _ j c.loop-i.pending c.loop-i-test.true less here c.is_some.result c.is_some.ensures c.if-is_some.true (c.loop-i.invariant j)

pub returns : goal.returns
returns c = λ j here.
    let inside = get_inside (map offer_name c.args.offers.now) j _ here in
    let long = length-map c.args.offers.now offer_name in
    c.loop-i.invariant j (omega (arith, inside, long, c.loop-i-test.false)) here
