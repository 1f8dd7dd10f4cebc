-- What a unit and a scope show.

use Rattle.std.specs.Prelude.{◌≡◌, ◌⊎◌, ℕ, ◌+◌, ◌<◌, ◌≤◌, Bool, true, false, List, Some, None, length, take}
use Rattle.rv_expression_laws.specs.Expression.{Primary, Reference}
use Rattle.rv_fault.specs.declared.source_fault.SourceFault.{SourceFault}
use Rattle.rv_fault.specs.declared.source_fault.SourceFault.TheVariants as refusals
use Rattle.rv_fault.specs.declared.source_fault.SourceCode.{SourceCode}
use Rattle.rv_fault.specs.SourceFault.{source_fault_number}
use Rattle.rv_unit_laws.specs.Faults.{StatementFault, first_unit_fault}
use Rattle.rv_statement_laws.specs.Statement.{Statement, StatementKind}
use Rattle.rv_statement.specs.Statements.{statements_of}
use Rattle.rv_unit_laws.specs.Tables as laws
use Rattle.rv_unit.specs.declared.section_offset.Definition.{Definition}
use Rattle.rv_unit.specs.declared.section_offset.SectionOffset.{SectionOffset}
use Rattle.rv_unit.specs.declared.unit.Unit.{Unit as SourceUnit}
use Rattle.rv_unit.specs.declared.scope.Scope.{Scope}
use Rattle.rv_unit.specs.Sections.{offset_of}
use Rattle.rv_unit.specs.Filled.{AreFilled}

abbrev pub definition_of : Definition → laws.Definition
definition_of h = record { ordinal = h.ordinal; plus = h.plus }

-- the statements of a unit
abbrev pub said : SourceUnit → List Statement
said u = statements_of u.statements

-- a unit has the offsets and the options of its statements and their tables
abbrev pub IsFilled : SourceUnit → Type 0
IsFilled u = AreFilled u.places.items u.options.items u.tables (said u)

-- a reference to a numeric label after it
abbrev pub comes_after : Primary → Bool
comes_after (Reference digits forward) = forward
comes_after _ = false

-- the tables of the first `count` statements
abbrev pub passed : List Statement → ℕ → laws.Tables
passed ss count = laws.after_all (laws.at_start ss) 1 (take count ss)

-- no name is both that of a label and one that is set
abbrev pub IsApart : laws.Tables → Type 0
IsApart t =
    (name : List ℕ) → (laws.label_of t.labels true 0 name ≡ None)
    ⊎ (laws.assigned_ever t.assignments name ≡ None)

-- the statement at this index from 0 has this ordinal, stands at this offset and says this
pub record IsStatementOf (u : SourceUnit) (i o : ℕ) (p : SectionOffset) (kind : StatementKind) :
    Type 0 where
  pub filled : IsFilled u
  pub within : i < length (said u)
  pub ordinal : o ≡ i + 1
  pub place : offset_of p ≡ laws.stood (passed (said u) i) (i + 1) kind
  pub more : passed (said u) (i + 1) ≡ laws.after (passed (said u) i) (i + 1) kind

-- the scope stands before the statement at this index from 0
pub record IsScope (s : Scope) (index : ℕ) : Type 0 where
  pub within : index ≤ length (said s.unit.now)
  pub ordinal : s.ordinal ≡ index + 1

-- a fault by its code and its line
abbrev pub fault_of : SourceCode × ℕ → StatementFault
fault_of f = record { code = source_fault_number f.0; line = f.1 }

-- the first fault that a refusal names, unless memory ran out
abbrev pub NamesFirst : SourceFault → List Statement → Type 0
NamesFirst (refusals.At code line) ss =
    first_unit_fault ss ≡ Some (record { code = source_fault_number code; line = line })
NamesFirst refusals.OutOfMemory ss = Unit {0}
