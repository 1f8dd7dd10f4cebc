use Rattle.std.proofs.Common.{subst}
use Rattle.rv_statement.specs.View.{statement_kind}
use Rattle.rv_pseudo.specs.declared.template.Manner.{Manner}
use Rattle.rv_pseudo.specs.Templates as is
use Rattle.rv_pseudo.proofs.expanding.expansion.Goals as goal

pub returns : goal.returns
returns c =
    let kind = statement_kind c.args.statement.now.kind in
    subst (λ (m : Manner). is.IsExpansion (is.faults_by m kind) (is.form_templates m kind) c.args.statement.now.line c.expanded_at.result) c.manner_of.ensures c.expanded_at.ensures
