-- Token by token.
use Rattle.std.proofs.Common.{◌∙◌, sym, ap, List, Ok, Err}
use Rattle.rv_expression_laws.specs.SyntaxError.{SyntaxError}
use Rattle.rv_expression_laws.specs.Expression.{Node}
use Rattle.rv_expression.specs.Nodes.{nodes_of}
use Rattle.rv_lexer.specs.Cursor.{remaining}
use Rattle.rv_fault.specs.SourceFault.{source_fault_number}
use Rattle.rv_expression.specs.Expr.{stage_of}
use Rattle.rv_expression.proofs.ReadingStepsLemmas.{ended, failed, read_fits, at_next}
use Rattle.rv_expression.proofs.reading.read_on.Goals as goal

pub new-requires : goal.new-requires
new-requires c =
    read_fits _ _ (nodes_of c.in-Ok-Ends.nodes) _
    (c.requires.1 ∙ ended _ _ c.tokens.cursor (stage_of c.tokens.frames.items c.tokens.stage) (nodes_of c.in-Ok-Ends.nodes) c.tokens.invariant (rw c.in-Ok-Ends.field-0-is at c.in-Ok-Ends.ensures))

pub returns-in-Ok-Ends-clause-reads : goal.returns-in-Ok-Ends-clause-reads
returns-in-Ok-Ends-clause-reads c =
    ended _ _ c.tokens.cursor (stage_of c.tokens.frames.items c.tokens.stage) (nodes_of c.in-Ok-Ends.nodes) c.tokens.invariant (rw c.in-Ok-Ends.field-0-is at c.in-Ok-Ends.ensures)
    ∙ ap (λ (ns : List Node). Ok (ns, remaining c.tokens.cursor)) (sym c.in_ok-new-in-Ok-Ends.ensures)

pub returns-in-Err-Fault-clause-reads : goal.returns-in-Err-Fault-clause-reads
returns-in-Err-Fault-clause-reads c =
    failed _ _ c.tokens.cursor (stage_of c.tokens.frames.items c.tokens.stage) (source_fault_number c.in-Err-Fault.code) c.tokens.invariant (rw c.in-Err-Fault.field-0-is at c.in-Err-Fault.ensures)
    ∙ ap (λ (w : SyntaxError). Err w) (sym (rw c.in-Err-Fault.field-0-is at c.wrong.ensures))

pub returns-in-Err-Fault-clause-next : goal.returns-in-Err-Fault-clause-next
returns-in-Err-Fault-clause-next c = at_next _ _ _ c.wrong.ensures
