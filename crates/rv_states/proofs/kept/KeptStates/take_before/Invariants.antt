use Rattle.std.proofs.Common.{◌≡◌, length}
use Rattle.rv_states.specs.Kept.{AreOfSameRuns}
use Rattle.rv_states.proofs.kept.KeptStates.take_before.Given as goal

abbrev pub invariant-loop-kept : goal.invariant-loop-kept
invariant-loop-kept l = record {
  states : AreOfSameRuns l.fn.self.states.items l.self.states.items;
  most : l.self.most ≡ l.fn.self.most;
}

abbrev pub decreases-loop-kept : goal.decreases-loop-kept
decreases-loop-kept l = length l.self.states.items
