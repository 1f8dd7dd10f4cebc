use Rattle.std.proofs.Common.{◌∙◌, ◌+◌, ap, sym, false, option_map}
use Rattle.rv_expression_laws.specs.Expression.{Primary}
use Rattle.rv_expression_laws.specs.Values.{Meaning}
use Rattle.rv_expression.specs.Expr.{tree_of_expr}
use Rattle.rv_unit_laws.specs.Tables as laws
use Rattle.rv_unit.specs.Sections.{offset_of}
use Rattle.rv_unit.specs.Tables.{assignment_of}
use Rattle.rv_unit.specs.Unit.{said, passed}
use Rattle.rv_unit.proofs.ScopedLemmas.{here_inside, past_here}
use Rattle.rv_unit.proofs.scope.Scope.gives_location.Goals as goal

pub returns-in-Some : goal.returns-in-Some
returns-in-Some c = λ i f s at.
    let u = c.args.self.now.unit.now in
    let ss = said u in
    let t = passed ss i in
    let p = offset_of c.args.place in
    let e = tree_of_expr c.args.assignment.now.expression in
    let o = c.args.self.now.ordinal in
    let inside = here_inside ss i p at in
    let means : Primary → Meaning = λ q. laws.meaning t false (i + 1) p q in
    let here = c.stands-here.ensures ∙ ap (λ (x : laws.Tables). laws.stands (laws.opened_of x) p) f.tables ∙ past_here ss i p s.within inside in
    let gives = c.assigned.ensures.value means e here (c.past_value-value.ensures i f s.within s.ordinal inside) in
    c.is_location.ensures ∙ ap (λ g. laws.gives_location (option_map assignment_of g)) (sym c.in-Some.is)
    ∙ ap laws.gives_location (gives ∙ ap (λ n. laws.assigned c.args.assignment.now.name.now n (laws.value_by_tables t false (i + 1) p e)) s.ordinal ∙ ap (λ q. laws.assigned c.args.assignment.now.name.now (i + 1) (laws.value_by_tables t false (i + 1) q e)) at)

pub returns-in-None : goal.returns-in-None
returns-in-None c = λ i f s at.
    let u = c.args.self.now.unit.now in
    let ss = said u in
    let t = passed ss i in
    let p = offset_of c.args.place in
    let e = tree_of_expr c.args.assignment.now.expression in
    let inside = here_inside ss i p at in
    let means : Primary → Meaning = λ q. laws.meaning t false (i + 1) p q in
    let here = c.stands-here.ensures ∙ ap (λ (x : laws.Tables). laws.stands (laws.opened_of x) p) f.tables ∙ past_here ss i p s.within inside in
    let gives = c.assigned.ensures.value means e here (c.past_value-value.ensures i f s.within s.ordinal inside) in
    ap (λ g. laws.gives_location (option_map assignment_of g)) (sym c.in-None.is)
    ∙ ap laws.gives_location (gives ∙ ap (λ n. laws.assigned c.args.assignment.now.name.now n (laws.value_by_tables t false (i + 1) p e)) s.ordinal ∙ ap (λ q. laws.assigned c.args.assignment.now.name.now (i + 1) (laws.value_by_tables t false (i + 1) q e)) at)
