use Rattle.std.proofs.Common.{◌∙◌, ap, sym, false, true}
use Rattle.rv_expression_laws.specs.Bytes.{digits_value}
use Rattle.rv_lexer.specs.Reference.{digits_in}
use Rattle.rv_unit_laws.specs.Tables.{forward_in, referred, opened_of}
use Rattle.rv_unit.specs.Tables.{tables_of}
use Rattle.rv_unit.proofs.LookupsLemmas.{numeric_label_none}
use Rattle.rv_unit.proofs.tables.Tables.referred.Goals as goal

pub returns-then-is_forward : goal.returns-then-is_forward
returns-then-is_forward c = λ i o h.
    let t = tables_of c.args.self.now in
    let n = digits_value 10 (digits_in c.args.reference.word.now) in
    sym (ap (referred t false o n) (sym c.is_forward.ensures ∙ c.if-is_forward.true) ∙ ap (forward_in (opened_of t) false) (numeric_label_none t o n h))

pub returns-else-is_forward : goal.returns-else-is_forward
returns-else-is_forward c = λ i o h.
    let t = tables_of c.args.self.now in
    c.backward.ensures i o h ∙ ap (λ d. referred t false o (digits_value 10 d) false) c.digits.ensures
    ∙ ap (referred t false o (digits_value 10 (digits_in c.args.reference.word.now))) (sym (sym c.is_forward.ensures ∙ c.if-is_forward.false))
