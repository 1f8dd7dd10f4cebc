use Rattle.std.proofs.Common.{◌≡◌, ℕ, List}
use Rattle.std.specs.BTreeSet.{btree_set_len}
use Rattle.rv_archive_laws.specs.Taken.{ObjectNames}
use Rattle.rv_inputs.specs.State.{IsState, position_of}
use Rattle.rv_inputs.proofs.search.Search.next.Given as goal

-- offers that are not due were taken out
abbrev pub invariant-loop-i : goal.invariant-loop-i
invariant-loop-i l = record {
  offers : l.self.offers.now ≡ l.fn.self.offers.now;
  taken : l.self.taken ≡ l.fn.self.taken;
  position : position_of l.self ≡ position_of l.fn.self;
  state : (names_of : ℕ → ObjectNames) (wanted : List (List ℕ)) (taken : List ℕ) → IsState names_of wanted l.fn.self taken → IsState names_of wanted l.self taken;
}

abbrev pub decreases-loop-i : goal.decreases-loop-i
decreases-loop-i l = btree_set_len l.self.pending
