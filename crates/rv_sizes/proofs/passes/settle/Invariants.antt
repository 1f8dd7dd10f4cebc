use Rattle.std.proofs.Common.{◌-◌, ◌*◌, length, if◌then◌else◌}
use Rattle.rv_size_laws.specs.Branches.{Rounds, smallest_sizes, branches}
use Rattle.rv_sizes.specs.Passes.{IsInput, IsTable}
use Rattle.rv_sizes.proofs.passes.settle.Given as goal

abbrev pub invariant-rounds : goal.invariant-rounds
invariant-rounds l = record {
  input : IsInput l.items (length l.ends);
  table : IsTable l.items (if l.forwards then 0 else length l.items) l.sizes l.stands;
  rounds_done : Rounds l.items (smallest_sizes l.items) l.sizes l.rounds;
}

abbrev pub decreases-rounds : goal.decreases-rounds
decreases-rounds l = 2 * branches l.items - l.rounds
