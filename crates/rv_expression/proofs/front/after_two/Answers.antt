-- The other symbol ends the expression.
use Rattle.std.proofs.Common.{Ok, [], ◌∷◌, sym, ◌∙◌, ap}
use Rattle.rv_expression_laws.specs.Expression.{Primary_node}
use Rattle.rv_lexer.specs.Cursor.{remaining}
use Rattle.rv_expression.specs.Nodes.{symbol_of}
use Rattle.rv_expression.proofs.FrontsLemmas.{ended_at, settled_infix}
use Rattle.rv_expression.proofs.front.after_two.Goals as goal

pub returns-then-ends-clause-reads : goal.returns-then-ends-clause-reads
returns-then-ends-clause-reads c =
    ended_at _ c.args.cursor.now _ _ _ (sym c.ends.ensures ∙ c.if-ends.true)
    (settled_infix c.args.pair.operator (Primary_node (symbol_of c.args.pair.left) ∷ Primary_node (symbol_of c.args.pair.right) ∷ []))
    ∙ ap (λ ns. Ok (ns, remaining c.args.cursor.now)) (sym c.in_ok-of_two.ensures)
