use Rattle.std.proofs.Common.{◌≡◌, ◌++◌, ◌∙◌, true, map, [], List, sym, ap, rules, if◌then◌else◌}
use Rattle.std.proofs.lemmas.Result.{on_ok_weaker}
use Rattle.rv_expression.specs.Expr.{tree_of_expr}
use Rattle.rv_statement_laws.specs.Widths.{width_bytes}
use Rattle.rv_assemble_laws.specs.Templates.{value_fields}
use Rattle.rv_assemble_laws.specs.Fields.{Field, field_at}
use Rattle.rv_instruction.specs.Scoped.{values_at}
use Rattle.rv_draft.specs.Draft.{field_of}
use Rattle.rv_draft.proofs.data.put_evaluated.Goals as goal

pub returns-clause-bytes : goal.returns-clause-bytes
returns-clause-bytes c =
    on_ok_weaker c.put_fields.result (λ told index f s. c.in_ok-put_bytes.ensures 0 _ (c.value-value.ensures index f s)) c.put_fields.ensures

pub returns-clause-fields : goal.returns-clause-fields
returns-clause-fields c =
    let spot = c.args.spot.now in
    let loaded : spot.loaded ≡ true = search rules in
    on_ok_weaker c.put_fields.result
    (λ told index f s.
    let own : List Field = map (field_at spot.place.section c.args.place) (value_fields spot.ordinal (width_bytes c.args.width) (values_at spot.scope.now index spot.place (tree_of_expr c.args.expression.now))) in
    told 0 _ (c.value-value.ensures index f s)
    ∙ ap (λ b. map field_of c.args.fields.now.items ++ (if b then own else [])) (sym loaded))
    c.put_fields.ensures
