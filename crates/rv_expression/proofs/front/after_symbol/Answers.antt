-- The symbol is the expression.
use Rattle.std.proofs.Common.{Ok, refl, sym, ◌∙◌, ap, List}
use Rattle.rv_expression_laws.specs.Expression.{Node}
use Rattle.rv_lexer.specs.Cursor.{remaining}
use Rattle.rv_expression.proofs.FrontsLemmas.{ended_at}
use Rattle.rv_expression.proofs.front.after_symbol.Goals as goal

pub returns-then-ends-clause-reads : goal.returns-then-ends-clause-reads
returns-then-ends-clause-reads c =
    ended_at _ c.args.cursor.now _ _ _ (sym c.ends.ensures ∙ c.if-ends.true) refl
    ∙ ap (λ (ns : List Node). Ok (ns, remaining c.args.cursor.now)) (sym c.of_symbol.ensures)
