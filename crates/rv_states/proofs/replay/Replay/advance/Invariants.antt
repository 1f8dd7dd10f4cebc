use Rattle.std.proofs.Common.{◌≡◌, ◌≤◌, ◌<◌, ◌+◌, ◌^◌}
use Rattle.std.specs.Prelude.{None}
use Rattle.rv_states.proofs.replay.Replay.advance.Given as goal

-- it has gone on by what is no longer left
abbrev pub invariant-loop-left : goal.invariant-loop-left
invariant-loop-left l = record {
  image : l.self.image ≡ l.fn.self.image;
  input : l.self.input ≡ l.fn.self.input;
  lost : l.self.lost ≡ l.fn.self.lost;
  left : l.left ≤ l.count;
  most : l.self.count + l.left ≤ l.fn.self.count + l.count;
  whole : l.fn.self.count + l.count < 2 ^ 64 → l.self.«end» ≡ None → l.self.count + l.left ≡ l.fn.self.count + l.count;
}

abbrev pub decreases-loop-left : goal.decreases-loop-left
decreases-loop-left l = l.left
