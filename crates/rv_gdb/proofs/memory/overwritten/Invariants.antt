use Rattle.std.proofs.Common.{◌≡◌, []}
use Rattle.rv_gdb.proofs.memory.overwritten.Given as goal

abbrev pub invariant-loop-write : goal.invariant-loop-write
invariant-loop-write l = l.writes ≡ [] → l.latest ≡ l.byte
