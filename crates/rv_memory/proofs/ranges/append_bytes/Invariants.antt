use Rattle.std.proofs.Common.{◌≡◌, ◌+◌, ◌-◌, ◌≤◌, ◌++◌, vec_len, vec_capacity}
use Rattle.rv_isa_laws.specs.Memory.{bytes_at}
use Rattle.rv_memory.proofs.ranges.append_bytes.Given as goal

-- the bytes so far are appended, and there is room for the rest
abbrev pub invariant-loop-k : goal.invariant-loop-k
invariant-loop-k g l = record {
  items : l.out.items ≡ l.fn.out.items ++ bytes_at (g.M.Memory.mem l.memory) l.address l.k;
  room : vec_len l.out + (l.count - l.k) ≤ vec_capacity l.out;
}
