use Rattle.std.proofs.Common.{◌∙◌, ap, sym, true, false}
use Rattle.rv_expression_laws.specs.Bytes.{digits_value}
use Rattle.rv_lexer.specs.Reference.{digits_in}
use Rattle.rv_unit_laws.specs.Tables.{referred}
use Rattle.rv_unit.specs.Tables.{tables_of}
use Rattle.rv_unit.proofs.unit.Unit.referred.Goals as goal

pub returns-then-is_forward : goal.returns-then-is_forward
returns-then-is_forward c = λ indexed o before.
    let t = tables_of c.args.self.now.tables in
    let at = c.args.ordinal in
    c.forward.ensures indexed o before ∙ ap (λ d. referred t true at (digits_value 10 d) true) c.digits.ensures
    ∙ ap (referred t true at (digits_value 10 (digits_in c.args.reference.word.now))) (sym (sym c.is_forward.ensures ∙ c.if-is_forward.true))

pub returns-else-is_forward : goal.returns-else-is_forward
returns-else-is_forward c = λ indexed o before.
    let t = tables_of c.args.self.now.tables in
    let at = c.args.ordinal in
    c.backward.ensures indexed o before ∙ ap (λ d. referred t true at (digits_value 10 d) false) c.digits-else-is_forward.ensures
    ∙ ap (referred t true at (digits_value 10 (digits_in c.args.reference.word.now))) (sym (sym c.is_forward.ensures ∙ c.if-is_forward.false))
