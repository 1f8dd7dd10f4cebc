use Rattle.std.proofs.Common.{◌≡◌, ◌+◌, ◌++◌, ◌∙◌, true, map, ap, sym}
use Rattle.std.proofs.lemmas.Result.{on_ok_weaker}
use Rattle.rv_expression_laws.specs.Expression.{Literal}
use Rattle.rv_expression_laws.specs.Values.{Constant}
use Rattle.rv_expression.specs.Expr.{tree_of_expr}
use Rattle.rv_expression.proofs.EvalsLemmas.{lone_value}
use Rattle.rv_statement_laws.specs.Widths.{width_bytes}
use Rattle.rv_unit_laws.specs.Tables as laws
use Rattle.rv_unit.specs.Sections.{offset_of}
use Rattle.rv_unit.specs.Unit.{said}
use Rattle.rv_assemble_laws.specs.Templates.{value_bytes}
use Rattle.rv_draft.specs.Draft.{field_of}
use Rattle.rv_draft.specs.Spots.{value_in}
use Rattle.rv_draft.proofs.NumbersLemmas.{number_fields}
use Rattle.rv_draft.proofs.data.put_value.Goals as goal

pub returns-in-Number-clause-bytes : goal.returns-in-Number-clause-bytes
returns-in-Number-clause-bytes c =
    let spot = c.args.spot.now in
    let t = laws.tables (said spot.scope.now.unit.now) in
    let p = offset_of spot.place in
    on_ok_weaker c.put_number.result
    (λ told index f s.
    let is : value_in spot index (tree_of_expr c.args.expression.now) ≡ Constant c.in-Number.number =
    ap (λ e. laws.value_by_tables t true (index + 1) p (tree_of_expr e)) c.in-Number.is ∙ lone_value (λ q. laws.meaning t true (index + 1) p q) (Literal c.in-Number.number) in
    told ∙ ap (λ v. c.args.bytes.now.items ++ value_bytes (width_bytes c.args.width) v) (sym is))
    c.put_number.ensures

pub returns-in-Number-clause-fields : goal.returns-in-Number-clause-fields
returns-in-Number-clause-fields c =
    let spot = c.args.spot.now in
    let t = laws.tables (said spot.scope.now.unit.now) in
    let p = offset_of spot.place in
    on_ok_weaker c.put_number.result
    (λ told index f s.
    let is : value_in spot index (tree_of_expr c.args.expression.now) ≡ Constant c.in-Number.number =
    ap (λ e. laws.value_by_tables t true (index + 1) p (tree_of_expr e)) c.in-Number.is ∙ lone_value (λ q. laws.meaning t true (index + 1) p q) (Literal c.in-Number.number) in
    number_fields spot c.args.place (width_bytes c.args.width) c.in-Number.number (value_in spot index (tree_of_expr c.args.expression.now)) is (map field_of c.args.fields.now.items) spot.loaded)
    c.put_number.ensures
