use Rattle.std.proofs.Common.{rules, ◌≡◌, ◌∙◌, true, false, sym, ap}
use Rattle.std.specs.Prelude.{if◌then◌else◌}
use Rattle.rv_statement.specs.View.{statement_kind}
use Rattle.rv_instruction.specs.Scoped.{values_at}
use Rattle.rv_draft.specs.Contents.{statement_padding, data_of}
use Rattle.rv_draft.proofs.beside.beside.Goals as goal

pub returns-then-executable-clause-is : goal.returns-then-executable-clause-is
returns-then-executable-clause-is c = λ index filled stands.
    let v = values_at c.args.scope.now index c.args.place in
    let kind = statement_kind c.args.statement.now.kind in
    let code : c.args.executable ≡ true = search rules in
    c.statement_padding.ensures.is index filled stands ∙ ap (λ b. if b then statement_padding true v kind else data_of v c.args.place.offset kind) (sym code)

pub returns-clause-is : goal.returns-clause-is
returns-clause-is c = λ index filled stands.
    let v = values_at c.args.scope.now index c.args.place in
    let kind = statement_kind c.args.statement.now.kind in
    let code : c.args.executable ≡ false = search rules in
    c.data_of.ensures.is index filled stands ∙ ap (λ b. if b then statement_padding true v kind else data_of v c.args.place.offset kind) (sym code)
