-- The statements so far have no fault, and the depth of the option stack is counted.
use Rattle.std.proofs.Common.{◌≡◌, ◌+◌, ◌≤◌, length, drop}
use Rattle.rv_unit_laws.specs.Faults.{first_fault_from}
use Rattle.rv_unit_laws.specs.Tables.{at_start, tables}
use Rattle.rv_unit.specs.Unit.{said, passed}
use Rattle.rv_unit.proofs.unit.Unit.first_fault.Given as goal

abbrev pub invariant-loop-index : goal.invariant-loop-index
invariant-loop-index l =
    (l.depth ≡ length (passed (said l.self) l.index).kept)
    × (l.depth ≤ l.index)
    × (first_fault_from (tables (said l.self)) (passed (said l.self) l.index) (l.index + 1) (drop l.index (said l.self)) ≡ first_fault_from (tables (said l.self)) (at_start (said l.self)) 1 (said l.self))
