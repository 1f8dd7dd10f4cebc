use Rattle.std.proofs.Common.{◌≡◌, ◌-◌, ◌/◌, ◌++◌}
use Rattle.rv_object_laws.specs.Padding.{four_each}
use Rattle.rv_object_types.proofs.padding.put_no_operations.Given as goal

-- what is there so far, and what is left, make up the whole
abbrev pub invariant-loop : goal.invariant-loop
invariant-loop l =
    l.out.items ++ four_each (l.bytes / 4 - l.counter) ≡ l.initial.out.items ++ four_each (l.bytes / 4)
