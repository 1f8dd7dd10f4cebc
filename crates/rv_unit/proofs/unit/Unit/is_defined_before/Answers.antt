use Rattle.std.proofs.Common.{◌∙◌, ap, sym, option_map}
use Rattle.std.specs.Prelude.{is_some}
use Rattle.rv_list_laws.proofs.OptionsLemmas.{is_some_map_back}
use Rattle.rv_unit.specs.Tables.{tables_of, label_at, assignment_of}
use Rattle.rv_unit.proofs.ApartLemmas.{label_defined, other_defined}
use Rattle.rv_unit.proofs.unit.Unit.is_defined_before.Goals as goal

pub returns-in-Some : goal.returns-in-Some
returns-in-Some c = λ i o h apart.
    let name = c.args.name.now in
    sym (label_defined (tables_of c.args.self.now.tables) o c.args.ordinal name (label_at name c.in-Some.label) h apart (sym c.label_hinted.ensures ∙ ap (option_map (label_at name)) c.in-Some.is))

pub returns-in-None : goal.returns-in-None
returns-in-None c = λ i o h apart.
    let name = c.args.name.now in
    c.is_some.ensures ∙ is_some_map_back assignment_of c.assignment_before.result ∙ ap is_some (c.assignment_before.ensures i o h)
    ∙ sym (other_defined (tables_of c.args.self.now.tables) o c.args.ordinal name h (sym c.label_hinted.ensures ∙ ap (option_map (label_at name)) c.in-None.is))
