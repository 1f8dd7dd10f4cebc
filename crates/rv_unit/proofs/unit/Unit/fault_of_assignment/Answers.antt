use Rattle.std.proofs.Common.{◌∙◌, ◌+◌, subst, length, refl, false}
use Rattle.rv_expression.specs.Expr.{tree_of_expr}
use Rattle.rv_statement_laws.specs.Statement.{StatementKind, Directs}
use Rattle.rv_statement.specs.View.{setting_of}
use Rattle.rv_unit_laws.specs.Faults as faults
use Rattle.rv_unit_laws.specs.Tables as laws
use Rattle.rv_unit.specs.Sections.{section_of}
use Rattle.rv_fault.specs.SourceFault.{IsLowest}
use Rattle.rv_unit.specs.Unit.{said, passed}
use Rattle.rv_unit.proofs.ApartLemmas.{whole_apart}
use Rattle.rv_unit.proofs.ScopedLemmas.{whole_before}
use Rattle.rv_unit.proofs.StandingLemmas.{at_here, at_home, at_defined, at_location}
use Rattle.rv_unit.proofs.unit.Unit.fault_of_assignment.Goals as goal

pub returns : goal.returns
returns c = λ i at.
    let u = c.args.self.now in
    let all = laws.tables (said u) in
    let t = passed (said u) i in
    let kind : StatementKind = Directs (setting_of c.args.assignment.now) in
    let name = c.args.assignment.now.name.now in
    let e = tree_of_expr c.args.assignment.now.expression in
    let whole = whole_before u at.filled in
    let defined = c.is_defined_before.ensures at.filled.indexed (1 + length (said u)) whole (whole_apart u at.filled) ∙ at_defined u i c.args.ordinal c.args.place kind name at in
    let placed = c.has_location_before.ensures at.filled.indexed (1 + length (said u)) whole ∙ at_location u i c.args.ordinal c.args.place kind name at in
    let found = c.set_fault.ensures t (i + 1) name defined placed 0 _ (c.early_value-value.ensures (i + 1) at.filled at.ordinal) in
    subst (λ k. IsLowest c.set_fault.result (faults.set_faults t (i + 1) k name (laws.value_by_tables all false (i + 1) (laws.here t) e))) (c.section_at.ensures ∙ at_home u i c.args.ordinal c.args.place kind at refl)
    (subst (λ q. IsLowest c.set_fault.result (faults.set_faults t (i + 1) (section_of c.section_at.result) name (laws.value_by_tables all false (i + 1) q e))) (at_here u i c.args.ordinal c.args.place kind at refl) found)
