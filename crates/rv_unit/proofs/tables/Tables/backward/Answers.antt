use Rattle.std.proofs.Common.{◌∙◌, ap, sym, option_map}
use Rattle.rv_expression_laws.specs.Bytes.{digits_value}
use Rattle.rv_unit_laws.specs.Tables.{backward_in, opened_of}
use Rattle.rv_unit.specs.Tables.{tables_of, numeric_label_at}
use Rattle.rv_unit.proofs.LookupsLemmas.{numeric_label_latest}
use Rattle.rv_unit.proofs.tables.Tables.backward.Goals as goal

pub returns-in-Some : goal.returns-in-Some
returns-in-Some c = λ i o h.
    let t = tables_of c.args.self.now in
    c.stands.ensures ∙ sym (ap (backward_in (opened_of t)) (numeric_label_latest t o (digits_value 10 c.args.digits.now) h ∙ sym (c.latest_numeric_label.ensures i) ∙ ap (option_map (numeric_label_at (digits_value 10 c.args.digits.now))) c.in-Some.is))

pub returns-in-None : goal.returns-in-None
returns-in-None c = λ i o h.
    let t = tables_of c.args.self.now in
    sym (ap (backward_in (opened_of t)) (numeric_label_latest t o (digits_value 10 c.args.digits.now) h ∙ sym (c.latest_numeric_label.ensures i) ∙ ap (option_map (numeric_label_at (digits_value 10 c.args.digits.now))) c.in-None.is))
