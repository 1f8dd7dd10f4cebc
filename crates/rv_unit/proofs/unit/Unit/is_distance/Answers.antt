use Rattle.std.proofs.Common.{◌∙◌, ap, map, reverse, sym}
use Rattle.rv_expression.specs.Expr.{tree_of_expr}
use Rattle.rv_unit_laws.specs.Tables as laws
use Rattle.rv_unit.specs.Tables.{assignment_of}
use Rattle.rv_unit.specs.Unit.{said}
use Rattle.rv_unit.proofs.DistancesLemmas.{distance_faults}
use Rattle.rv_unit.proofs.unit.Unit.is_distance.Goals as goal

pub returns-then-not-sets_none : goal.returns-then-not-sets_none
returns-then-not-sets_none c = λ width o p f h. absurd (cc)

pub returns : goal.returns
returns c = λ width o p f h.
    let u = c.args.self.now in
    distance_faults (laws.tables (said u)) o p width (tree_of_expr c.args.value.now)
    (ap (λ (t : laws.Tables). t.assignments) (sym f.tables) ∙ ap (λ gs. reverse (map assignment_of gs)) (c.sets_none.ensures c.if-not-sets_none.false))
    (sym c.is_difference.ensures ∙ h)
