use Rattle.std.proofs.Common.{◌∙◌, ◌+◌, subst, refl, false}
use Rattle.rv_expression_laws.specs.Values.{Value}
use Rattle.rv_expression.specs.Expr.{tree_of_expr}
use Rattle.rv_statement_laws.specs.Statement.{StatementKind, Directs, As_power, Aligns}
use Rattle.rv_unit_laws.specs.Faults as faults
use Rattle.rv_unit_laws.specs.Sections.{current_section}
use Rattle.rv_unit_laws.specs.Tables as laws
use Rattle.rv_unit.specs.Sections.{section_of}
use Rattle.rv_fault.specs.SourceFault.{IsLowest}
use Rattle.rv_unit.specs.Unit.{said, passed}
use Rattle.rv_unit.proofs.StandingLemmas.{at_here, at_home}
use Rattle.rv_unit.proofs.unit.Unit.fault_of_power.Goals as goal

pub returns : goal.returns
returns c = λ i at.
    let u = c.args.self.now in
    let t = passed (said u) i in
    let e = tree_of_expr c.args.exponent.now in
    let kind : StatementKind = Directs (Aligns As_power e) in
    let worth : laws.SectionOffset → Value = λ q. laws.value_by_tables (laws.tables (said u)) false (i + 1) q e in
    let r = c.alignment_fault.result in
    let here = at_here u i c.args.ordinal c.args.place kind at refl in
    let value = c.early_value-value.ensures (i + 1) at.filled at.ordinal in
    c.lower.ensures (faults.power_faults (worth (laws.here t))) (faults.alignment_faults (current_section (laws.opened_of t)) (laws.here t).offset (laws.power_alignment (worth (laws.here t))))
    (subst (λ q. IsLowest c.power_fault-found.result (faults.power_faults (worth q))) here (c.power_fault-found.ensures 0 _ value))
    (subst (λ k. IsLowest r (faults.alignment_faults k (laws.here t).offset (laws.power_alignment (worth (laws.here t))))) (c.section_at.ensures ∙ at_home u i c.args.ordinal c.args.place kind at refl)
    (subst (λ (q : laws.SectionOffset). IsLowest r (faults.alignment_faults (section_of c.section_at.result) q.offset (laws.power_alignment (worth q)))) here
    (subst (λ a. IsLowest r (faults.alignment_faults (section_of c.section_at.result) c.args.place.offset a)) (c.power_alignment.ensures _ value) c.alignment_fault.ensures)))
