use Rattle.std.proofs.Common.{◌≤◌, ◌+◌, length}
use Rattle.rv_size_laws.specs.Branches.{MayWiden}
use Rattle.rv_size_laws.proofs.StepsLemmas.{Goes}
use Rattle.rv_sizes.specs.Passes.{AreRests, IsInput, IsTable, Stays}
use Rattle.rv_sizes.proofs.passes.widen_backwards.Given as goal

abbrev pub invariant-loop-i : goal.invariant-loop-i
invariant-loop-i l = record {
  within : l.i ≤ length l.items;
  input : IsInput l.items (length l.ends);
  table : IsTable l.items l.i l.sizes l.stands;
  rests : AreRests l.items l.i l.sizes l.ends;
  goes : Goes (MayWiden l.items) (Stays l.items) l.fn.sizes l.sizes l.widened l.i (length l.items);
  few : l.widened + l.i ≤ length l.items;
}

abbrev pub decreases-loop-i : goal.decreases-loop-i
decreases-loop-i l = l.i
