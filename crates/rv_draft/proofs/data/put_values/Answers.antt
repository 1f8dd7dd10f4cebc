use Rattle.std.proofs.Common.{rules, ◌≡◌, ◌++◌, ◌∙◌, ◌+◌, ◌<◌, ◌≤◌, length, map, drop, subst, sym, ap, append-nil}
use Rattle.std.proofs.lemmas.List.{length-map}
use Rattle.rv_list_laws.proofs.MapLemmas.{drop_map_read, flat_more, flat_done}
use Rattle.rv_expression_laws.specs.Values.{Value}
use Rattle.rv_expression.specs.Expr.{tree_of_expr}
use Rattle.rv_statement_laws.specs.Statement.{Expression}
use Rattle.rv_statement_laws.specs.Widths.{width_bytes}
use Rattle.rv_assemble_laws.specs.Templates.{value_bytes}
use Rattle.rv_instruction.specs.Scoped.{values_at}
use Rattle.rv_draft.proofs.FieldsSoFarLemmas.{fields_more, fields_done, place_more}
use Rattle.rv_draft.proofs.data.put_values.Goals as goal

pub loop-value-preserved : goal.loop-value-preserved
loop-value-preserved c =
    let i = c.loop-value.value-index in
    let xs = c.args.values.now in
    let spot = c.args.spot.now in
    let width = width_bytes c.args.width in
    let inside : i < length xs = search rules in
    let here = drop_map_read tree_of_expr xs i c.value-item.result inside c.value-item.is in
    let x = tree_of_expr c.value-item.result in
    let next : c.loop-value.place + c.width_in_bytes-place.result ≡ c.loop-value.place + width = ap (λ n. c.loop-value.place + n) c.width_in_bytes-place.ensures.value in
    record {
      place = place_more c.args.offset width i c.loop-value.place (c.loop-value.place + c.width_in_bytes-place.result) c.loop-value.invariant.place next;
      bytes = λ index f s.
          let v : Expression → Value = λ e. values_at spot.scope.now index spot.place e in
          flat_more (λ e. value_bytes width (v e)) (drop i (map tree_of_expr xs)) (drop (i + 1) (map tree_of_expr xs)) x c.loop-value.bytes.items c.put_value.new.bytes.items _
          here (c.in_ok-put_value.ensures.bytes index f s ∙ ap (λ l. c.loop-value.bytes.items ++ l) (sym (append-nil (value_bytes width (v x))))) (c.loop-value.invariant.bytes index f s);
      fields = λ index f s.
          fields_more spot.place.section spot.ordinal width (λ e. values_at spot.scope.now index spot.place e) spot.loaded c.loop-value.place (c.loop-value.place + c.width_in_bytes-place.result) x
          (drop i (map tree_of_expr xs)) (drop (i + 1) (map tree_of_expr xs)) _ _ _ here next (c.in_ok-put_value.ensures.fields index f s) (c.loop-value.invariant.fields index f s);
    }

pub returns-clause-bytes : goal.returns-clause-bytes
returns-clause-bytes c = λ index f s.
    let n = c.loop-value.value-index in
    let xs = c.args.values.now in
    let spot = c.args.spot.now in
    flat_done (λ e. value_bytes (width_bytes c.args.width) (values_at spot.scope.now index spot.place e)) (map tree_of_expr xs) n c.loop-value.bytes.items _ (subst (λ k. k ≤ n) (sym (length-map xs tree_of_expr)) (search rules)) (c.loop-value.invariant.bytes index f s)

pub returns-clause-fields : goal.returns-clause-fields
returns-clause-fields c = λ index f s.
    let n = c.loop-value.value-index in
    let xs = c.args.values.now in
    let spot = c.args.spot.now in
    fields_done spot.place.section spot.ordinal (width_bytes c.args.width) (λ e. values_at spot.scope.now index spot.place e) spot.loaded c.loop-value.place n (map tree_of_expr xs) _ _ (subst (λ k. k ≤ n) (sym (length-map xs tree_of_expr)) (search rules)) (c.loop-value.invariant.fields index f s)
