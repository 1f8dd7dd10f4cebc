use Rattle.std.proofs.Common.{◌∙◌}
use Rattle.rv_expression.specs.Eval.{meaning_of}
use Rattle.rv_unit.proofs.GivesLemmas.{assigned_told}
use Rattle.rv_unit.proofs.fill.assigned_value.Goals as goal

pub returns-in-Symbolic-clause-value : goal.returns-in-Symbolic-clause-value
returns-in-Symbolic-clause-value c = λ means e same told.
    c.assigned_symbol.ensures.value
    ∙ assigned_told means c.args.name.now c.args.ordinal e c.args.value c.in-Symbolic.symbol (meaning_of c.args.here) c.in-Symbolic.plus same told c.in-Symbolic.is
