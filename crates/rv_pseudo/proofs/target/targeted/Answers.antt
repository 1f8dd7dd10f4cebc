use Rattle.std.proofs.Common.{ap, sym, subst, ◌∙◌}
use Rattle.rv_statement_laws.specs.Statement.{Target}
use Rattle.rv_statement.specs.View.{with_operand}
use Rattle.rv_pseudo.specs.Faults.{is_written}
use Rattle.rv_pseudo.specs.Templates.{AreTemplates}
use Rattle.rv_pseudo.proofs.InRangeLemmas.{and_right}
use Rattle.rv_pseudo.proofs.target.targeted.Goals as goal

pub returns-in-Parcel : goal.returns-in-Parcel
returns-in-Parcel c = λ rvc e.
    let o = c.in-Parcel in
    let written = sym (ap is_written o.is) ∙ c.requires.written in
    subst (λ operation. AreTemplates rvc c.args.bytes (with_operand operation (Target e)) c.with_target.result.items) (sym o.is)
    (c.with_target.ensures o.field-2 rvc c.args.bytes e (and_right _ _ written))
