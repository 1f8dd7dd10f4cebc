use Rattle.std.proofs.Common.{map, take}
use Rattle.rv_inputs.specs.Chain.{Falls, AreChainsBy}
use Rattle.rv_inputs.specs.Naming.{offer_name}
use Rattle.rv_inputs.proofs.chains.Chains.of.Given as goal

-- the chains of the offers so far
abbrev pub invariant-loop-i : goal.invariant-loop-i
invariant-loop-i l = record {
  chains : AreChainsBy l.last l.before.items (map offer_name (take l.i l.offers));
  falls : Falls l.before.items;
}
