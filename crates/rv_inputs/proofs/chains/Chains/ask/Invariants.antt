use Rattle.std.proofs.Common.{◌≡◌, ℕ, List, true, Option}
use Rattle.std.specs.BTreeSet.{contains}
use Rattle.std.specs.Ordering.{nat_cmp}
use Rattle.rv_inputs.specs.Chain.{AreChainsBy}
use Rattle.rv_inputs.proofs.ChainLemmas.{CoversTo, HasIt, steps_left}
use Rattle.rv_inputs.proofs.chains.Chains.ask.Given as goal

-- what is not asked for yet stands no later on the chain
abbrev pub invariant-loop-at : goal.invariant-loop-at
invariant-loop-at l = record {
  kept : (j : ℕ) → contains nat_cmp l.fn.pending j ≡ true → contains nat_cmp l.pending j ≡ true;
  covered : (names : List (Option (List ℕ))) → AreChainsBy l.self.last l.self.before.items names
      → CoversTo l.pending names l.name l.at × HasIt names l.name l.at;
}

abbrev pub decreases-loop-at : goal.decreases-loop-at
decreases-loop-at l = steps_left l.at
