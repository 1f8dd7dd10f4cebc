use Rattle.std.proofs.Common.{◌∙◌, ◌+◌, ap, sym, length, true, false}
use Rattle.rv_lexer.specs.Reference.{digits_in, is_ahead}
use Rattle.rv_expression.specs.Nodes.{symbol_of}
use Rattle.rv_expression_laws.specs.Bytes.{digits_value}
use Rattle.rv_unit_laws.specs.Tables as laws
use Rattle.rv_unit.specs.Sections.{offset_of}
use Rattle.rv_unit.specs.Tables.{tables_of}
use Rattle.rv_unit.specs.Unit.{said}
use Rattle.rv_unit.proofs.ScopedLemmas.{whole_before}
use Rattle.rv_unit.proofs.unit.Unit.early_meaning.Goals as goal

pub returns-in-Name : goal.returns-in-Name
returns-in-Name c = λ o f at.
    let all = tables_of c.args.self.now.tables in
    let ss = said c.args.self.now in
    let p = offset_of c.args.place in
    c.early_named.ensures f.indexed (1 + length ss) (whole_before c.args.self.now f) ∙ ap (λ n. laws.named all false n c.in-Name.name.now) at ∙ ap (λ x. laws.named x false o c.in-Name.name.now) f.tables
    ∙ sym (ap (λ x. laws.meaning (laws.tables ss) false o p (symbol_of x)) c.in-Name.is)

pub returns-in-Here : goal.returns-in-Here
returns-in-Here c = λ o f at.
    let all = tables_of c.args.self.now.tables in
    let ss = said c.args.self.now in
    let p = offset_of c.args.place in
    c.stands.ensures ∙ ap (λ (x : laws.Tables). laws.stands (laws.opened_of x) p) f.tables
    ∙ sym (ap (λ x. laws.meaning (laws.tables ss) false o p (symbol_of x)) c.in-Here.is)

pub returns-in-Reference : goal.returns-in-Reference
returns-in-Reference c = λ o f at.
    let all = tables_of c.args.self.now.tables in
    let ss = said c.args.self.now in
    let p = offset_of c.args.place in
    let n = digits_value 10 (digits_in c.in-Reference.reference.word.now) in
    let ahead = is_ahead c.in-Reference.reference.word.now in
    c.early_referred.ensures f.indexed (1 + length ss) (whole_before c.args.self.now f) ∙ ap (λ i. laws.referred all false i n ahead) at ∙ ap (λ x. laws.referred x false o n ahead) f.tables
    ∙ sym (ap (λ x. laws.meaning (laws.tables ss) false o p (symbol_of x)) c.in-Reference.is)
