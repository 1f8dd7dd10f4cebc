use Rattle.std.proofs.Common.{◌∙◌, ap, sym, ◌+◌, true, false, length, Some}
use Rattle.rv_expression_laws.specs.Expression.{Symbol, Reference}
use Rattle.rv_lexer.specs.Reference.{digits_in, is_ahead}
use Rattle.rv_expression.specs.Nodes.{symbol_of}
use Rattle.rv_unit_laws.specs.Tables.{definition, tables, definition_at, numeric_definition}
use Rattle.rv_unit.specs.Tables.{tables_of}
use Rattle.rv_unit.specs.Unit.{said}
use Rattle.rv_unit.proofs.ApartLemmas.{whole_apart}
use Rattle.rv_unit.proofs.ScopedLemmas.{whole_before}
use Rattle.rv_unit.proofs.scope.Scope.definition.Goals as goal

pub returns-in-Name : goal.returns-in-Name
returns-in-Name c = λ i f s.
    let u = c.args.self.now.unit.now in
    let q = Symbol c.in-Name.name.now in
    c.definition_of_name.ensures f.indexed (1 + length (said u)) (whole_before u f) (whole_apart u f) ∙ ap (λ o. definition (tables_of u.tables) o q) s.ordinal ∙ ap (λ t. definition t (i + 1) q) f.tables
    ∙ sym (ap (λ x. definition (tables (said u)) (i + 1) (symbol_of x)) c.in-Name.is)

pub returns-in-Here : goal.returns-in-Here
returns-in-Here c = λ i f s.
    let ss = said c.args.self.now.unit.now in
    ap (λ o. Some (definition_at o)) s.ordinal ∙ sym (ap (λ x. definition (tables ss) (i + 1) (symbol_of x)) c.in-Here.is)

pub returns-in-Reference : goal.returns-in-Reference
returns-in-Reference c = λ i f s.
    let u = c.args.self.now.unit.now in
    let q = Reference (digits_in c.in-Reference.reference.word.now) (is_ahead c.in-Reference.reference.word.now) in
    c.definition_of_reference.ensures f.indexed (1 + length (said u)) (whole_before u f)
    ∙ ap (λ o. definition (tables_of u.tables) o q) s.ordinal ∙ ap (λ t. definition t (i + 1) q) f.tables
    ∙ sym (ap (λ x. definition (tables (said u)) (i + 1) (symbol_of x)) c.in-Reference.is)
