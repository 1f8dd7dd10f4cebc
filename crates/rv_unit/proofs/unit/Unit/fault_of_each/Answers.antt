use Rattle.std.proofs.Common.{ℕ, List, ◌<◌, sym, subst, length, map, take, take_all, true, rules}
use Rattle.std.specs.Prelude.{flat_map}
use Rattle.rv_expression_laws.specs.Expression.{Tree}
use Rattle.rv_expression.specs.Expr.{tree_of_expr}
use Rattle.rv_statement_laws.specs.Widths.{width_bytes}
use Rattle.rv_unit_laws.specs.Faults as faults
use Rattle.rv_unit_laws.specs.Tables as laws
use Rattle.rv_fault.specs.SourceFault.{IsLowest}
use Rattle.rv_unit.specs.Sections.{offset_of}
use Rattle.rv_unit.specs.Unit.{said}
use Rattle.rv_unit.proofs.EachLemmas.{each_more}
use Rattle.rv_unit.proofs.unit.Unit.fault_of_each.Goals as goal

pub loop-value-preserved : goal.loop-value-preserved
loop-value-preserved c = λ o f at.
    let n = c.loop-value.value-index in
    let xs = c.args.values.now in
    let x = c.value-item.result in
    let inside : n < length xs = search rules in
    let each : Tree → List ℕ = (λ e. faults.value_faults (width_bytes c.args.width) (laws.value_by_tables (laws.tables (said c.args.self.now)) true o (offset_of c.args.place) e)) in
    subst (IsLowest c.lower-found.result) (sym (each_more each xs n x inside c.value-item.is))
    (c.lower-found.ensures (flat_map each (map tree_of_expr (take n xs))) (each (tree_of_expr x)) (c.loop-value.invariant o f at)
    (c.fault_of_value.ensures o f at))

pub returns : goal.returns
returns c = λ o f at.
    let each : Tree → List ℕ = (λ e. faults.value_faults (width_bytes c.args.width) (laws.value_by_tables (laws.tables (said c.args.self.now)) true o (offset_of c.args.place) e)) in
    subst (λ l. IsLowest c.loop-value.found (flat_map each (map tree_of_expr l))) (take_all c.loop-value.value-index c.args.values.now c.loop-value-test.false) (c.loop-value.invariant o f at)
