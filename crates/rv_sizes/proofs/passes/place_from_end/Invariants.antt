use Rattle.std.proofs.Common.{◌≡◌, ◌≤◌, length}
use Rattle.rv_sizes.specs.Passes.{AreRests, IsInput}
use Rattle.rv_sizes.proofs.FirstTableLemmas.{RestsFrom}
use Rattle.rv_sizes.proofs.passes.place_from_end.Given as goal

abbrev pub invariant-loop-i : goal.invariant-loop-i
invariant-loop-i l = record {
  within : l.i ≤ length l.items;
  same_length : length l.stands ≡ length l.items;
  input : IsInput l.items (length l.ends);
  rests : RestsFrom l.items l.i l.sizes l.stands;
  ends : AreRests l.items l.i l.sizes l.ends;
}

abbrev pub decreases-loop-i : goal.decreases-loop-i
decreases-loop-i l = l.i
