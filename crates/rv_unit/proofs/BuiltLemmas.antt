-- The unit of a list of statements says those of the list that it was made of.

use Rattle.std.proofs.Common.{◌≡◌, List, Result, Ok, Err, IfOk, ap, ◌∙◌}
use Rattle.rv_fault.specs.declared.source_fault.SourceFault.{SourceFault}
use Rattle.rv_statement_laws.specs.Statement.{Statement}
use Rattle.rv_statement.specs.Statements.{statements_of}
use Rattle.rv_statement.specs.declared.statements.Statements.{Statements}
use Rattle.rv_unit.specs.declared.unit.Unit.{Unit as SourceUnit}
use Rattle.rv_unit.specs.Unit.{said}

pub built_same : (r : Result SourceUnit SourceFault) (s : Statements) (ss : List Statement) → statements_of s ≡ ss → IfOk r (λ u. u.statements ≡ s) → IfOk r (λ u. said u ≡ ss)
built_same (Ok u) s ss is h = ap statements_of h ∙ is
built_same (Err e) s ss is h = tt
