use Rattle.std.proofs.Common.{◌≡◌, ℕ, map, take, true}
use Rattle.std.specs.Prelude.{flat_map}
use Rattle.rv_expression.specs.Expr.{tree_of_expr}
use Rattle.rv_statement_laws.specs.Widths.{width_bytes}
use Rattle.rv_unit_laws.specs.Faults as faults
use Rattle.rv_unit_laws.specs.Tables as laws
use Rattle.rv_fault.specs.SourceFault.{IsLowest}
use Rattle.rv_unit.specs.Sections.{offset_of}
use Rattle.rv_unit.specs.Unit.{said, IsFilled}
use Rattle.rv_unit.proofs.unit.Unit.fault_of_each.Given as goal

-- the lowest fault of the values so far
abbrev pub invariant-loop-value : goal.invariant-loop-value
invariant-loop-value l =
    (o : ℕ) → IsFilled l.self → l.ordinal ≡ o
    → IsLowest l.found (flat_map (λ e. faults.value_faults (width_bytes l.width) (laws.value_by_tables (laws.tables (said l.self)) true o (offset_of l.place) e)) (map tree_of_expr (take l.value-index l.values)))
