use Rattle.std.proofs.Common.{◌≡◌, ◌-◌, ◌≤◌, replicate, vec_capacity}
use Rattle.rv_memory.proofs.flat.fill.Given as goal

-- as many zeros as are done
abbrev pub invariant-loop-done : goal.invariant-loop-done
invariant-loop-done l = record {
  all : l.list.items ≡ replicate l.done 0;
  within : l.done ≤ l.count;
  room : vec_capacity l.fn.list ≤ vec_capacity l.list;
}

abbrev pub decreases-loop-done : goal.decreases-loop-done
decreases-loop-done l = l.count - l.done
