use Rattle.std.proofs.Common.{ℕ, List, ◌∙◌, ◌+◌, ◌*◌, sym, subst, length, map, refl, true}
use Rattle.std.proofs.lemmas.List.{length-map}
use Rattle.std.specs.Prelude.{flat_map}
use Rattle.rv_expression.specs.Expr.{tree_of_expr}
use Rattle.rv_statement_laws.specs.Statement.{StatementKind, Directs, Values, Emits}
use Rattle.rv_statement_laws.specs.Widths.{width_bytes}
use Rattle.rv_unit_laws.specs.Sections.{current_section}
use Rattle.rv_unit_laws.specs.Faults as faults
use Rattle.rv_unit_laws.specs.Tables as laws
use Rattle.rv_fault.specs.SourceFault.{IsLowest}
use Rattle.rv_unit.specs.Unit.{said, passed}
use Rattle.rv_unit_laws.specs.Faults.{stored_faults}
use Rattle.rv_unit.proofs.SizedLemmas.{data_shown}
use Rattle.rv_unit.proofs.StandingLemmas.{at_here, at_home}
use Rattle.rv_unit.proofs.unit.Unit.fault_of_values.Goals as goal

pub returns : goal.returns
returns c = λ i at.
    let u = c.args.self.now in
    let t = passed (said u) i in
    let r = c.data_fault.result in
    let w = width_bytes c.args.width in
    let xs = c.args.values.now in
    let kind : StatementKind = Directs (Emits (Values w (map tree_of_expr xs))) in
    let each : laws.SectionOffset → List ℕ = λ q. flat_map (λ e. faults.value_faults w (laws.value_by_tables (laws.tables (said u)) true (i + 1) q e)) (map tree_of_expr xs) in
    let section = current_section (laws.opened_of t) in
    let offset = (laws.here t).offset in
    let here = at_here u i c.args.ordinal c.args.place kind at refl in
    c.lower.ensures
    (each (laws.here t))
    (stored_faults section offset (w * length (map tree_of_expr xs)))
    (subst (λ q. IsLowest c.fault_of_each-each.result (each q)) here (c.fault_of_each-each.ensures (i + 1) at.filled at.ordinal))
    (subst (λ n. IsLowest r (stored_faults section offset (w * n))) (sym (length-map xs tree_of_expr))
    (subst (IsLowest r) (data_shown section offset (w * length xs))
    (subst (λ b. IsLowest r (stored_faults section offset b)) c.values_size-bytes.ensures
    (subst (λ (q : laws.SectionOffset). IsLowest r (stored_faults section q.offset c.values_size-bytes.result)) here
    (subst (λ k. IsLowest r (stored_faults k c.args.place.offset c.values_size-bytes.result)) (c.section_at.ensures ∙ at_home u i c.args.ordinal c.args.place kind at refl) c.data_fault.ensures)))))
