use Rattle.std.proofs.Common.{◌-◌, ◌*◌, length, if◌then◌else◌}
use Rattle.rv_size_laws.specs.Calls.{Rounds, calls, whole_sizes}
use Rattle.rv_call_sizes.specs.Passes.{IsTable}
use Rattle.rv_call_sizes.proofs.passes.settle.Given as goal

abbrev pub invariant-rounds : goal.invariant-rounds
invariant-rounds l = record {
  table : IsTable l.sites (if l.forwards then 0 else length l.sites) l.kept l.stands;
  rounds_done : Rounds l.sites (whole_sizes l.sites) l.kept l.rounds;
}

abbrev pub decreases-rounds : goal.decreases-rounds
decreases-rounds l = 2 * calls l.sites - l.rounds
