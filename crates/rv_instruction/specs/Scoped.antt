-- What a scope gives the statement that is next.

use Rattle.std.specs.Prelude.{◌≡◌, ℕ, ◌+◌, Bool, true, List, Option, Result}
use Rattle.rv_expression_laws.specs.Expression.{Primary}
use Rattle.rv_expression_laws.specs.Values as values
use Rattle.rv_fault.specs.declared.source_fault.SourceFault.{SourceFault}
use Rattle.rv_expression.specs.declared.evaluation.Value.{Value}
use Rattle.rv_expression.specs.Eval.{IsOutcome}
use Rattle.rv_statement_laws.specs.Statement.{StatementKind, Expression}
use Rattle.rv_unit_laws.specs.Tables.{tables, value_by_tables, stood}
use Rattle.rv_unit.specs.declared.section_offset.SectionOffset.{SectionOffset}
use Rattle.rv_unit.specs.Sections.{offset_of}
use Rattle.rv_unit.specs.declared.scope.Scope.{Scope}
use Rattle.rv_unit.specs.Unit.{said, passed, IsFilled, IsScope}
use Rattle.rv_parcel.specs.declared.form.Compressed.{Compressed}
use Rattle.rv_source_laws.specs.Located.{is_placed}
use Rattle.rv_source_laws.specs.Lines.{form_in}
use Rattle.rv_assemble_laws.specs.Coded.{constants}
use Rattle.rv_assemble_laws.specs.InstructionFaults.{instruction_faults, is_label}

-- the values of expressions in the statement at this index from 0, which stands at this offset
abbrev pub values_at : Scope → ℕ → SectionOffset → Expression → values.Value
values_at scope index place e =
    value_by_tables (tables (said scope.unit.now)) true (index + 1) (offset_of place) e

-- the form of a parcel that the statement at this index names
abbrev pub named_at : Scope → ℕ → SectionOffset → StatementKind → Option Compressed
named_at scope index place kind = form_in (constants (values_at scope index place)) kind

-- which symbols are labels of the source
abbrev pub labels_at : Scope → ℕ → Primary → Bool
labels_at scope index q = is_label (tables (said scope.unit.now)) (index + 1) q

-- the faults of that statement as code
abbrev pub faults_at : Scope → ℕ → SectionOffset → StatementKind → List ℕ
faults_at scope index place kind =
    instruction_faults (values_at scope index place) (labels_at scope index) kind

-- ---- what is said of that statement, and of a value

-- of the index from 0 of the statement that is next
abbrev pub AtNext : Scope → (ℕ → Type 0) → Type 0
AtNext scope P = (index : ℕ) → IsFilled scope.unit.now → IsScope scope index → P index

-- the statement at this index, which says this, stands at this offset
abbrev pub StandsHere : Scope → ℕ → SectionOffset → StatementKind → Type 0
StandsHere scope index place kind =
    offset_of place ≡ stood (passed (said scope.unit.now) index) (index + 1) kind

-- whether it has a row where its section is loaded
abbrev pub is_placed_at : Scope → ℕ → StatementKind → Bool
is_placed_at scope index kind = is_placed (passed (said scope.unit.now) index) (index + 1) kind

-- of each value that a result at a line stands for
abbrev pub ForOutcome : Result Value SourceFault → ℕ → (values.Value → Type 0) → Type 0
ForOutcome result line P = (v : values.Value) → IsOutcome result line v → P v
