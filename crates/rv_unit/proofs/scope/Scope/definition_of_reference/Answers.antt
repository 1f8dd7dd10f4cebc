use Rattle.std.proofs.Common.{◌∙◌, ap, sym, true, false}
use Rattle.rv_expression_laws.specs.Bytes.{digits_value}
use Rattle.rv_expression_laws.specs.Expression.{Reference}
use Rattle.rv_lexer.specs.Reference.{digits_in}
use Rattle.rv_unit_laws.specs.Tables.{definition, numeric_definition}
use Rattle.rv_unit.specs.Tables.{tables_of}
use Rattle.rv_unit.proofs.scope.Scope.definition_of_reference.Goals as goal

pub returns-then-is_forward : goal.returns-then-is_forward
returns-then-is_forward c = λ indexed o before.
    let t = tables_of c.args.self.now.unit.now.tables in
    let at = c.args.self.now.ordinal in
    c.definition_of_numeric_label.ensures (digits_value 10 c.digits-digits.result.now) ∙ ap numeric_definition (c.numeric_label_after.ensures indexed o before)
    ∙ ap (λ d. definition t at (Reference d true)) c.digits-digits.ensures
    ∙ ap (λ f. definition t at (Reference (digits_in c.args.reference.word.now) f)) (sym (sym c.is_forward.ensures ∙ c.if-is_forward.true))

pub returns-else-is_forward : goal.returns-else-is_forward
returns-else-is_forward c = λ indexed o before.
    let t = tables_of c.args.self.now.unit.now.tables in
    let at = c.args.self.now.ordinal in
    c.definition_of_numeric_label-else-is_forward.ensures (digits_value 10 c.digits-digits.result.now) ∙ ap numeric_definition (c.numeric_label_before.ensures indexed o before)
    ∙ ap (λ d. definition t at (Reference d false)) c.digits-digits.ensures
    ∙ ap (λ f. definition t at (Reference (digits_in c.args.reference.word.now) f)) (sym (sym c.is_forward.ensures ∙ c.if-is_forward.false))
