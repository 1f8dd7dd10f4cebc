use Rattle.std.proofs.Common.{◌∙◌, ap, sym, option_map}
use Rattle.rv_unit.specs.Tables.{tables_of, label_at}
use Rattle.rv_unit.proofs.ApartLemmas.{defined_label, defined_unlabelled}
use Rattle.rv_unit.proofs.scope.Scope.definition_of_name.Goals as goal

pub returns-in-Some : goal.returns-in-Some
returns-in-Some c = λ i o h apart.
    let name = c.args.name.now in
    sym (defined_label (tables_of c.args.self.now.unit.now.tables) c.args.self.now.ordinal name (label_at name c.in-Some.label) apart (sym c.label.ensures ∙ ap (option_map (label_at name)) c.in-Some.is))

pub returns-in-None : goal.returns-in-None
returns-in-None c = λ i o h apart.
    let name = c.args.name.now in
    c.definition_of_assigned.ensures i o h
    ∙ sym (defined_unlabelled (tables_of c.args.self.now.unit.now.tables) c.args.self.now.ordinal name (sym c.label.ensures ∙ ap (option_map (label_at name)) c.in-None.is))
