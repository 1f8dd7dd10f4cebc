use Rattle.std.proofs.Common.{rules, ◌≡◌, subst, [], ◌∷◌}
use Rattle.std.specs.Prelude.{IfSome}
use Rattle.rv_statement.specs.View.{plain_of}
use Rattle.rv_pseudo.specs.Templates.{plain}
use Rattle.rv_instruction.proofs.OneInstructionLemmas.{lone_valid, lone_answers}
use Rattle.rv_instruction.proofs.known.bare_one.Goals as goal

pub returns-in-Some-clause-is : goal.returns-in-Some-clause-is
returns-in-Some-clause-is c = c.in-Some.ensures.is c.args.compressed

pub returns-in-Ok-clause-valid : goal.returns-in-Ok-clause-valid
returns-in-Ok-clause-valid c =
    let same : c.as_slice.result.now ≡ c.in-Ok.templates.items = search rules in
    lone_valid c.in-Ok.templates.items c.lone.result c.in-Ok.ensures.codable (subst (λ l. IfSome c.lone.result (λ i. l ≡ plain i ∷ [])) same c.lone.ensures)

pub returns-in-Ok-clause-is : goal.returns-in-Ok-clause-is
returns-in-Ok-clause-is c =
    let same : c.as_slice.result.now ≡ c.in-Ok.templates.items = search rules in
    lone_answers c.args.compressed (plain_of c.args.statement.now) c.in-Ok.templates c.lone.result c.in-Ok.ensures.is (subst (λ l. IfSome c.lone.result (λ i. l ≡ plain i ∷ [])) same c.lone.ensures)
