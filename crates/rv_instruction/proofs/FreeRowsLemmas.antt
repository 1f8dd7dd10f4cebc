-- The rows that leave no field open, whatever the names in them stand for.

use Rattle.std.proofs.Common.{◌≡◌, Bool, true, false, refl, ap, ◌∙◌, None}
use Rattle.rv_statement.specs.declared.statement.Operation.{Operation}
use Rattle.rv_statement.specs.declared.statement.Plain.{Plain}
use Rattle.rv_statement_laws.specs.Statement.{Expression, StatementKind}
use Rattle.rv_statement.specs.View.{plain_of, with_operand}
use Rattle.rv_pseudo.specs.Faults.{takes_target}
use Rattle.rv_pseudo.specs.Templates.{statement_with}
use Rattle.rv_pseudo.proofs.RowsLemmas.{away_operand}
use Rattle.rv_source_laws.specs.Lines.{parts_by_size}
use Rattle.rv_instruction.specs.Opened.{are_free, LeavesNone}
use Rattle.rv_instruction.proofs.KnownRowsLemmas.{row_same, row_closed, plain_closed, plain_same}

pub plain_free : (p : Plain) (kind : StatementKind) → kind ≡ plain_of p → LeavesNone kind
plain_free p kind e c rvc bytes = ap (λ k. are_free (parts_by_size c rvc bytes k)) e ∙ ap are_free (plain_same p c rvc bytes) ∙ plain_closed p c rvc bytes

pub operand_free : (operation : Operation) → takes_target operation ≡ false → (e : Expression) → LeavesNone (statement_with operation None e)
operand_free operation away e c rvc bytes =
    ap (λ o. are_free (parts_by_size c rvc bytes (with_operand operation o))) (away_operand operation None e away)
    ∙ ap are_free (row_same operation None c rvc bytes rvc bytes e away) ∙ row_closed operation None (c e) rvc bytes e refl away

-- by what a statement says
pub with_free : (operation : Operation) (x : Expression) (kind : StatementKind) (closed : Bool) → kind ≡ statement_with operation None x
    → (closed ≡ true → (e : Expression) → LeavesNone (statement_with operation None e)) → closed ≡ true → LeavesNone kind
with_free operation x kind closed e told is c rvc bytes = ap (λ k. are_free (parts_by_size c rvc bytes k)) e ∙ told is x c rvc bytes
