-- A source without faults has none of labels and directives.

use Rattle.std.proofs.Common.{◌≡◌, List, Option, Some, None, refl}
use Rattle.rv_statement_laws.specs.Statement.{Statement}
use Rattle.rv_unit_laws.specs.Faults.{StatementFault, first_unit_fault}
use Rattle.rv_assemble_laws.specs.Refusals.{code_fault, else_fault, statements_fault}

no_first : (f other : Option StatementFault) → else_fault f other ≡ None → (f ≡ None) × (other ≡ None)
no_first None other e = (refl, e)
no_first (Some f) other e = absurd (cc)

pub no_first_fault : (ss : List Statement) → statements_fault ss ≡ None → first_unit_fault ss ≡ None
no_first_fault ss good = (no_first (first_unit_fault ss) (code_fault ss) good).0
