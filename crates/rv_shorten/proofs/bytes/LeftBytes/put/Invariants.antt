use Rattle.std.proofs.Common.{◌≡◌, ◌++◌, length, take, drop}
use Rattle.rv_shorten.specs.Bytes.{left_bytes}
use Rattle.rv_shorten.proofs.bytes.LeftBytes.put.Given as goal

-- what is added so far, and what is still to be added, make up the whole
abbrev pub invariant-loop-run : goal.invariant-loop-run
invariant-loop-run l = record {
  added : l.out.items ++ take l.wanted (left_bytes l.self) ≡ l.initial.out.items ++ take l.count (left_bytes l.initial.self);
  left : drop l.wanted (left_bytes l.self) ≡ drop l.count (left_bytes l.initial.self);
}

abbrev pub decreases-loop-run : goal.decreases-loop-run
decreases-loop-run l = length (left_bytes l.self)
