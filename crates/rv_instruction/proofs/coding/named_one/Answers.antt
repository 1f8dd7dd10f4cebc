use Rattle.std.proofs.Common.{sym}
use Rattle.rv_statement.specs.View.{statement_of}
use Rattle.rv_instruction.specs.Scoped.{values_at, labels_at}
use Rattle.rv_instruction.proofs.NamedLemmas.{named_codes}
use Rattle.rv_instruction.proofs.coding.named_one.Goals as goal

pub returns-in-Some-clause-codes : goal.returns-in-Some-clause-codes
returns-in-Some-clause-codes c = λ index filled stands rvc bytes.
    let e = c.in_named_form.result in
    named_codes rvc bytes (values_at c.args.scope.now index c.args.place) (labels_at c.args.scope.now index) (statement_of c.args.statement.now) e c.in-Some.form
    (sym (c.in-Some.ensures.is index filled stands)) c.in_named_form.ensures.one c.in_named_form.ensures.is

pub returns-in-None-clause-unnamed : goal.returns-in-None-clause-unnamed
returns-in-None-clause-unnamed c = λ none index filled stands. sym (c.in-None.ensures.is index filled stands)
