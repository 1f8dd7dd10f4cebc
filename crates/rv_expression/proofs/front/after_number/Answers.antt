-- The number is the expression.
use Rattle.std.proofs.Common.{refl, sym, ◌∙◌}
use Rattle.rv_expression.proofs.FrontsLemmas.{ended_at}
use Rattle.rv_expression.proofs.front.after_number.Goals as goal

pub returns-then-ends-clause-reads : goal.returns-then-ends-clause-reads
returns-then-ends-clause-reads c = ended_at _ c.args.cursor.now _ _ _ (sym c.ends.ensures ∙ c.if-ends.true) refl
