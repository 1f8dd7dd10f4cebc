use Rattle.std.proofs.Common.{◌∙◌, ap, sym, option_map}
use Rattle.rv_unit.specs.Tables.{tables_of, assignment_of}
use Rattle.rv_unit.proofs.LookupsLemmas.{named_set, named_other}
use Rattle.rv_unit.proofs.tables.Tables.own_named.Goals as goal

pub returns-in-Some : goal.returns-in-Some
returns-in-Some c = λ i o h. sym (named_set (tables_of c.args.self.now) o c.args.name.now (assignment_of c.in-Some.assignment) h (sym (c.assignment.ensures i) ∙ ap (option_map assignment_of) c.in-Some.is))

pub returns-in-None : goal.returns-in-None
returns-in-None c = λ i o h. c.labelled.ensures ∙ sym (named_other (tables_of c.args.self.now) o c.args.name.now h (sym (c.assignment.ensures i) ∙ ap (option_map assignment_of) c.in-None.is))
