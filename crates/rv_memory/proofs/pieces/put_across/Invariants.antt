use Rattle.std.proofs.Common.{◌≡◌, ◌+◌, drop, length, true}
use Rattle.rv_isa_laws.specs.Memory.{Write, may, with_bytes}
use Rattle.rv_memory.proofs.pieces.put_across.Given as goal

-- the rest put gives the whole put, and the rest may still be written
abbrev pub invariant-loop-k : goal.invariant-loop-k
invariant-loop-k g l = record {
  put : with_bytes (g.P.Pieces.mem l.memory) (l.address + l.k) (drop l.k l.bytes) ≡ with_bytes (g.P.Pieces.mem l.fn.memory) l.address l.bytes;
  may : may (g.P.Pieces.mem l.memory) l.address (length l.bytes) Write ≡ true;
}
