-- The faults of the statement at an index of a unit, by the tables before it.

use Rattle.std.specs.Prelude.{ℕ, ◌+◌, List}
use Rattle.rv_statement_laws.specs.Statement.{StatementKind, Directive}
use Rattle.rv_unit_laws.specs.Tables.{tables}
use Rattle.rv_unit_laws.specs.Faults.{faults, directive_faults}
use Rattle.rv_unit.specs.declared.unit.Unit.{Unit as SourceUnit}
use Rattle.rv_unit.specs.Unit.{said, passed}

abbrev pub faults_at : SourceUnit → ℕ → StatementKind → List ℕ
faults_at u index kind = faults (tables (said u)) (passed (said u) index) (index + 1) kind

abbrev pub directive_faults_at : SourceUnit → ℕ → Directive → List ℕ
directive_faults_at u index d =
    directive_faults (tables (said u)) (passed (said u) index) (index + 1) d
