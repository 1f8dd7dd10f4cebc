use Rattle.std.proofs.Common.{◌∙◌, sym, refl}
use Rattle.rv_expression.specs.Eval.{meaning_of}
use Rattle.rv_unit.specs.Tables.{tables_of, assignment_of}
use Rattle.rv_unit.proofs.LookupsLemmas.{taken_place, taken_other}
use Rattle.rv_unit.proofs.tables.Tables.is_taken.Goals as goal

pub returns-then-is_location : goal.returns-then-is_location
returns-then-is_location c = λ i h.
    taken_place (tables_of c.args.self.now) (assignment_of c.args.assigned.now) (meaning_of c.args.assigned.now.meaning) c.is_defined.result refl h (sym c.is_location.ensures ∙ c.if-is_location.true) (c.is_defined.ensures i)

pub returns-else-is_location : goal.returns-else-is_location
returns-else-is_location c = λ i h.
    taken_other (tables_of c.args.self.now) (assignment_of c.args.assigned.now) (meaning_of c.args.assigned.now.meaning) c.has_location.result refl h (sym c.is_location.ensures ∙ c.if-is_location.false) (c.has_location.ensures i)
