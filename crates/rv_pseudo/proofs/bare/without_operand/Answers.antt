use Rattle.std.proofs.Common.{subst, sym, ap, ◌∙◌, ◌∷◌, []}
use Rattle.rv_statement.specs.View.{plain_of}
use Rattle.rv_pseudo.specs.Templates.{AreTemplates}
use Rattle.rv_pseudo.proofs.TableLemmas.{bare_found}
use Rattle.rv_pseudo.proofs.bare.without_operand.Goals as goal

pub returns-in-Some : goal.returns-in-Some
returns-in-Some c =
    bare_found c.args.statement c.args.rvc c.one.result
    (λ bytes. subst (AreTemplates c.args.rvc bytes (plain_of c.args.statement)) (sym (c.one.ensures ∙ ap (λ t. t ∷ []) c.plain.ensures)) (c.in-Some.ensures.is c.args.rvc bytes))
