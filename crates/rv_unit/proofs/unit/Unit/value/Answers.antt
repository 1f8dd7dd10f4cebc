use Rattle.std.proofs.Common.{◌∙◌, ap, map, reverse, sym}
use Rattle.rv_expression.specs.Expr.{expr_of}
use Rattle.rv_unit_laws.specs.Tables as laws
use Rattle.rv_unit.specs.Sections.{offset_of}
use Rattle.rv_unit.specs.Tables.{assignment_of}
use Rattle.rv_unit.specs.Unit.{said}
use Rattle.rv_unit.proofs.PlacesLemmas.{name_value}
use Rattle.rv_unit.proofs.unit.Unit.value.Goals as goal

pub returns-in-Some : goal.returns-in-Some
returns-in-Some c = λ o f at.
    let u = c.args.self.now in
    name_value (laws.tables (said u)) o (offset_of c.args.place) c.in-Some.name.now (expr_of c.args.expression.now)
    (ap (λ (t : laws.Tables). t.assignments) (sym f.tables) ∙ ap (λ gs. reverse (map assignment_of gs)) c.in-Some.ensures.none)
    c.in-Some.ensures.name
