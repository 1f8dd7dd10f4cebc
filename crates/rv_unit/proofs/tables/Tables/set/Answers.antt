use Rattle.std.proofs.Common.{◌≡◌, ◌∙◌, ap, sym, true, map, [], ◌∷◌}
use Rattle.std.specs.Prelude.{not, reverse}
use Rattle.std.proofs.lemmas.List.{map-append, reverse-append}
use Rattle.rv_expression.specs.Eval.{meaning_of}
use Rattle.rv_unit_laws.specs.Tables.{may_set}
use Rattle.rv_unit.specs.Tables.{tables_of, assignment_of}
use Rattle.rv_unit.proofs.GivesLemmas.{on_ok}
use Rattle.rv_unit.proofs.LookupsLemmas.{set_one}
use Rattle.rv_unit.proofs.tables.Tables.set.Goals as goal

pub returns-clause-tables : goal.returns-clause-tables
returns-clause-tables c =
    let t = tables_of c.args.self.now in
    let s = c.args.assigned in
    let before = map assignment_of c.args.self.now.assignments.items in
    on_ok c.add_assigned.result _ _
    (λ f i h.
    let may : may_set t s.ordinal s.name.now (meaning_of s.meaning) ≡ true = sym (c.is_taken.ensures i h) ∙ ap not c.if-is_taken.false in
    set_one t (assignment_of s) (reverse (map assignment_of c.push.new.self.items)) may
    (ap (λ l. reverse (map assignment_of l)) c.in_ok-push.ensures.items
    ∙ ap reverse (map-append assignment_of c.args.self.now.assignments.items (s ∷ []))
    ∙ reverse-append before (assignment_of s ∷ [])))
    c.add_assigned.ensures
