use Rattle.std.proofs.Common.{sym, ap, subst, true}
use Rattle.rv_statement_laws.specs.Widths.{width_bytes}
use Rattle.rv_expression_laws.specs.Codes.{lowest}
use Rattle.rv_expression.specs.Expr.{tree_of_expr}
use Rattle.rv_unit_laws.specs.Faults as faults
use Rattle.rv_unit_laws.specs.Tables as laws
use Rattle.rv_fault.specs.SourceFault.{IsLowest}
use Rattle.rv_unit.specs.Sections.{offset_of}
use Rattle.rv_unit.specs.Unit.{said}
use Rattle.rv_unit.proofs.unit.Unit.fault_of_value.Goals as goal

pub returns-then-is_faultless : goal.returns-then-is_faultless
returns-then-is_faultless c = λ o f at. sym (ap lowest (c.is_faultless.ensures (width_bytes c.args.width) o (offset_of c.args.place) f c.if-is_faultless.true))

pub returns : goal.returns
returns c = λ o f at.
    subst (λ w. IsLowest c.value_fault.result (faults.value_faults w (laws.value_by_tables (laws.tables (said c.args.self.now)) true o (offset_of c.args.place) (tree_of_expr c.args.value.now)))) c.width_in_bytes.ensures
    (c.value_fault.ensures 0 _ (c.value-found.ensures o f at))
