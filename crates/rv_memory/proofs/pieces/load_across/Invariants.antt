use Rattle.std.proofs.Common.{◌≡◌, ◌<◌, ◌+◌, ◌%◌, ◌^◌, ℕ, take, length}
use Rattle.rv_isa_laws.specs.Memory.{bytes_at}
use Rattle.rv_memory.proofs.pieces.load_across.Given as goal

-- the bytes so far
abbrev pub invariant-loop-k : goal.invariant-loop-k
invariant-loop-k g l = record {
  bytes : bytes_at (g.P.Pieces.mem l.memory) l.address l.k ≡ take l.k l.gathered;
  long : length l.gathered ≡ 8;
  small : (j : ℕ) → j < l.k → (g.P.Pieces.mem l.memory).byte ((l.address + j) % 2 ^ 64) < 256;
}
