-- The bindings so far and those of the rest are those of the whole.
use Rattle.std.proofs.Common.{◌≡◌, drop}
use Rattle.rv_statement.specs.Statements.{statements_of}
use Rattle.rv_unit_laws.specs.Tables.{bound_tables}
use Rattle.rv_unit.specs.Tables.{tables_of, IsIndexed}
use Rattle.rv_unit.proofs.tables.Tables.bind_names.Given as goal

abbrev pub invariant-loop-index : goal.invariant-loop-index
invariant-loop-index l =
    (bound_tables (drop l.index (statements_of l.statements)) (tables_of l.self) ≡ bound_tables (statements_of l.statements) (tables_of l.fn.self))
    × (IsIndexed l.fn.self → IsIndexed l.self)
