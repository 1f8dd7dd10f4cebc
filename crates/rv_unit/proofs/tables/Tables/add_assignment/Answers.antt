use Rattle.std.proofs.Common.{◌≡◌, ◌∙◌, ap, sym, subst, rules, false, Some, option_map}
use Rattle.rv_expression.specs.Expr.{tree_of_expr}
use Rattle.rv_unit_laws.specs.Tables.{with_assignment, assigned, meaning, value_by_tables, here, stands, opened_of}
use Rattle.rv_unit_laws.proofs.BeforeLemmas.{IsBefore}
use Rattle.rv_unit.specs.Tables.{tables_of, assignment_of, IsIndexed}
use Rattle.rv_unit.proofs.GivesLemmas.{on_ok}
use Rattle.rv_unit.proofs.tables.Tables.add_assignment.Goals as goal

pub returns-in-Some-clause-tables : goal.returns-in-Some-clause-tables
returns-in-Some-clause-tables c =
    let t = tables_of c.args.self.now in
    let at : c.in-Some.assigned.ordinal ≡ c.args.ordinal = search rules in
    on_ok c.set.result
    (IsIndexed c.args.self.now → IsBefore (tables_of c.args.self.now) c.in-Some.assigned.ordinal → tables_of c.set.new.self ≡ with_assignment (tables_of c.args.self.now) (Some (assignment_of c.in-Some.assigned)))
    (IsIndexed c.args.self.now → IsBefore (tables_of c.args.self.now) c.args.ordinal → tables_of c.set.new.self ≡ with_assignment (tables_of c.args.self.now) (assigned c.args.assignment.now.name.now c.args.ordinal (value_by_tables (tables_of c.args.self.now) false c.args.ordinal (here (tables_of c.args.self.now)) (tree_of_expr c.args.assignment.now.expression))))
    (λ f i h. f i (subst (IsBefore t) (sym at) h) ∙ ap (with_assignment t) (sym (ap (option_map assignment_of) c.in-Some.is)
    ∙ c.assigned.ensures.value (λ q. meaning t false c.args.ordinal (here t) q) (tree_of_expr c.args.assignment.now.expression) (c.stands.ensures ∙ ap (stands (opened_of t)) c.here.ensures) (c.value-value.ensures i c.args.ordinal h)))
    c.set.ensures.tables
