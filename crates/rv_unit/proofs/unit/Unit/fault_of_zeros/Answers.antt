use Rattle.std.proofs.Common.{◌∙◌, ◌+◌, subst, refl, false}
use Rattle.rv_expression_laws.specs.Values.{Value}
use Rattle.rv_expression.specs.Expr.{tree_of_expr}
use Rattle.rv_statement_laws.specs.Statement.{StatementKind, Directs, Zeros, Emits}
use Rattle.rv_unit_laws.specs.Faults as faults
use Rattle.rv_unit_laws.specs.Tables as laws
use Rattle.rv_unit.specs.Sections.{section_of}
use Rattle.rv_fault.specs.SourceFault.{IsLowest}
use Rattle.rv_unit.specs.Unit.{said, passed}
use Rattle.rv_unit.proofs.StandingLemmas.{at_here, at_home}
use Rattle.rv_unit.proofs.unit.Unit.fault_of_zeros.Goals as goal

pub returns : goal.returns
returns c = λ i at.
    let u = c.args.self.now in
    let t = passed (said u) i in
    let e = tree_of_expr c.args.count.now in
    let kind : StatementKind = Directs (Emits (Zeros e)) in
    let worth : laws.SectionOffset → Value = λ q. laws.value_by_tables (laws.tables (said u)) false (i + 1) q e in
    let found = c.zero_fault.ensures 0 _ (c.early_value-value.ensures (i + 1) at.filled at.ordinal) in
    subst (λ k. IsLowest c.zero_fault.result (faults.zero_faults k (laws.here t).offset (worth (laws.here t)))) (c.section_at.ensures ∙ at_home u i c.args.ordinal c.args.place kind at refl)
    (subst (λ (q : laws.SectionOffset). IsLowest c.zero_fault.result (faults.zero_faults (section_of c.section_at.result) q.offset (worth q))) (at_here u i c.args.ordinal c.args.place kind at refl) found)
