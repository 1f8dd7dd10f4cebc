use Rattle.std.proofs.Common.{◌∙◌, ◌==◌, ◌<◌, ◌^◌, ap, List, ◌∷◌, rules}
use Rattle.rv_expression_laws.specs.Bytes.{digits_value}
use Rattle.rv_unit_laws.specs.Tables as laws
use Rattle.rv_unit.specs.declared.number.Number.{Number}
use Rattle.rv_unit.specs.declared.tables.NumericLabel.{NumericLabel}
use Rattle.rv_unit.specs.Tables.{tables_of, numbered_at, numeric_labels_in}
use Rattle.rv_unit.proofs.GivesLemmas.{on_ok, both_ok}
use Rattle.rv_unit.proofs.NumberedLemmas.{indexed_later, few}
use Rattle.rv_unit.proofs.tables.Tables.add_numeric_label.Goals as goal

pub returns-clause-tables : goal.returns-clause-tables
returns-clause-tables c =
    let b = c.args.self.now in
    let t = tables_of b in
    let number = digits_value 10 c.args.digits.now in
    let fits : c.args.ordinal < 2 ^ 32 = search rules in
    on_ok c.add_numbered.result _ _
    (λ all h. ap (λ (l : List laws.NumericLabel). record t { numeric_labels = l })
    (all (few (λ (k : Number). number == digits_value 10 k.digits.now) b.numbered.entries c.args.ordinal (2 ^ 32) h.numeric_labels_fall h.numeric_labels fits) h.numeric_labels
    ∙ ap (λ p. record { number = number; ordinal = c.args.ordinal; place = p } ∷ t.numeric_labels) c.here.ensures))
    c.add_numbered.ensures.all

pub returns-clause-indexed : goal.returns-clause-indexed
returns-clause-indexed c =
    let b = c.args.self.now in
    let number = digits_value 10 c.args.digits.now in
    let x : NumericLabel = record { ordinal = c.args.ordinal; place = c.here.result } in
    let fits : c.args.ordinal < 2 ^ 32 = search rules in
    on_ok c.add_numbered.result _ _
    (λ both i h.
    let in_range = few (λ (k : Number). number == digits_value 10 k.digits.now) b.numbered.entries c.args.ordinal (2 ^ 32) h.numeric_labels_fall h.numeric_labels fits in
    record {
      numbers = i.numbers;
      assignments = i.assignments;
      weak = i.weak;
      numbered = λ digits.
          indexed_later number (digits_value 10 digits) x
          (numbered_at b.numbered (digits_value 10 digits)) (numbered_at c.add_numbered.new.numbered (digits_value 10 digits))
          (numeric_labels_in b.numbered.entries) (numeric_labels_in c.add_numbered.new.numbered.entries)
          (both.0 in_range digits) (both.1 in_range h.numeric_labels) (i.numbered digits);
    })
    (both_ok c.add_numbered.result _ _ c.add_numbered.ensures.each c.add_numbered.ensures.all)
