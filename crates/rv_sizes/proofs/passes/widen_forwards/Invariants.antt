use Rattle.std.proofs.Common.{◌≤◌, length}
use Rattle.rv_size_laws.specs.Branches.{MayWiden}
use Rattle.rv_size_laws.proofs.StepsLemmas.{Goes}
use Rattle.rv_sizes.specs.Passes.{AreStarts, IsInput, IsTable, Stays}
use Rattle.rv_sizes.proofs.passes.widen_forwards.Given as goal

abbrev pub invariant-loop-i : goal.invariant-loop-i
invariant-loop-i l = record {
  input : IsInput l.items (length l.ends);
  table : IsTable l.items l.i l.sizes l.stands;
  starts : AreStarts l.items l.i l.sizes l.ends;
  goes : Goes (MayWiden l.items) (Stays l.items) l.fn.sizes l.sizes l.widened 0 l.i;
  few : l.widened ≤ l.i;
}
