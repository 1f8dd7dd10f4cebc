use Rattle.std.proofs.Common.{◌≡◌, ◌≤◌, ◌<◌, take}
use Rattle.std.specs.List.{All}
use Rattle.rv_states.proofs.kept.KeptStates.latest_below.Given as goal

-- it is the latest of those that were looked at
abbrev pub invariant-loop-kept : goal.invariant-loop-kept
invariant-loop-kept l = record {
  all : l.kept-items ≡ l.self.states.items;
  below : 0 < l.count → l.latest < l.count;
  latest : All (λ kept. kept.count < l.count → kept.count ≤ l.latest) (take l.kept-index l.kept-items);
}
