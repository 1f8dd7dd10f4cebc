use Rattle.std.proofs.Common.{rules, ◌≡◌, ◌≤◌, ◌+◌, ◌*◌, ◌++◌, ◌∙◌, length, map, sym, ap, subst}
use Rattle.std.proofs.lemmas.List.{length-map}
use Rattle.std.proofs.lemmas.Result.{on_ok_weaker}
use Rattle.std.specs.Prelude.{flat_map}
use Rattle.rv_expression_laws.specs.Values.{Value}
use Rattle.rv_expression.specs.Expr.{tree_of_expr}
use Rattle.rv_statement_laws.specs.Statement.{Expression}
use Rattle.rv_statement_laws.specs.Widths.{width_bytes}
use Rattle.rv_statement.specs.View.{statement_kind}
use Rattle.rv_statement.specs.declared.statement.StatementKind.TheVariants as kinds
use Rattle.rv_unit_laws.specs.Tables.{longest_section}
use Rattle.rv_assemble_laws.specs.Templates.{value_bytes, Datum}
use Rattle.rv_assemble_laws.specs.LaidStatements.{laid_part, part_bytes}
use Rattle.rv_instruction.specs.Scoped.{values_at}
use Rattle.rv_draft.specs.DataParts.{data_said, fields_said}
use Rattle.rv_draft.specs.Draft.{field_of}
use Rattle.rv_draft.proofs.FieldsSoFarLemmas.{bytes_as, parts_as}
use Rattle.rv_draft.proofs.data.put_data.Goals as goal

pub put_values-requires : goal.put_values-requires
put_values-requires c =
    let width = c.in-Values.width in
    let items = c.in-Values.values.items in
    let same : c.as_slice.result.now ≡ items = search rules in
    let kind : c.args.kind.now ≡ kinds.Values width c.in-Values.values = search rules in
    subst (λ n. c.args.offset + width_bytes width * n ≤ longest_section) (length-map items tree_of_expr ∙ sym (ap length same))
    (c.requires (width_bytes width) (map tree_of_expr items) (ap statement_kind kind))

pub returns-in-Values-clause-bytes : goal.returns-in-Values-clause-bytes
returns-in-Values-clause-bytes c =
    let old = c.args.bytes.now.items in
    let width = c.in-Values.width in
    let items = c.in-Values.values.items in
    let o = c.args.spot.now.ordinal in
    let same : c.as_slice.result.now ≡ items = search rules in
    let kind : c.args.kind.now ≡ kinds.Values width c.in-Values.values = search rules in
    on_ok_weaker c.put_values.result
    (λ told index f s.
    let v : Expression → Value = λ e. values_at c.args.spot.now.scope.now index c.args.spot.now.place e in
    told index f s
    ∙ ap (λ xs. old ++ flat_map (λ e. value_bytes (width_bytes width) (v e)) (map tree_of_expr xs)) same
    ∙ ap (λ l. old ++ l) (bytes_as o (width_bytes width) v (map tree_of_expr items))
    ∙ ap (λ k. old ++ flat_map part_bytes (data_said o v (statement_kind k) c.args.count)) (sym kind))
    c.put_values.ensures.bytes

pub returns-in-Values-clause-fields : goal.returns-in-Values-clause-fields
returns-in-Values-clause-fields c =
    let old = map field_of c.args.fields.now.items in
    let width = c.in-Values.width in
    let items = c.in-Values.values.items in
    let spot = c.args.spot.now in
    let o = spot.ordinal in
    let same : c.as_slice.result.now ≡ items = search rules in
    let kind : c.args.kind.now ≡ kinds.Values width c.in-Values.values = search rules in
    on_ok_weaker c.put_values.result
    (λ told index f s.
    let v : Expression → Value = λ e. values_at spot.scope.now index spot.place e in
    told index f s
    ∙ ap (λ xs. old ++ fields_said spot.loaded spot.place.section c.args.offset (map (λ e. laid_part o (Datum (width_bytes width) (v e))) (map tree_of_expr xs))) same
    ∙ ap (λ l. old ++ fields_said spot.loaded spot.place.section c.args.offset l) (parts_as o (width_bytes width) v (map tree_of_expr items))
    ∙ ap (λ k. old ++ fields_said spot.loaded spot.place.section c.args.offset (data_said o v (statement_kind k) c.args.count)) (sym kind))
    c.put_values.ensures.fields
