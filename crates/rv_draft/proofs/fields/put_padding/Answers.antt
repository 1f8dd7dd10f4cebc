use Rattle.std.proofs.Common.{◌++◌, ◌∷◌, [], ◌∙◌, map, sym, ap, append-nil}
use Rattle.std.proofs.lemmas.Result.{on_ok_weaker}
use Rattle.rv_draft.specs.Draft.{field_of}
use Rattle.rv_draft.proofs.CodeFieldsLemmas.{padding_none, padding_one}
use Rattle.rv_draft.proofs.fields.put_padding.Goals as goal

pub returns-then-item-eq0 : goal.returns-then-item-eq0
returns-then-item-eq0 c =
    let spot = c.args.spot.now in
    let old = map field_of c.args.fields.now.items in
    sym (append-nil old) ∙ ap (λ l. old ++ l) (sym (padding_none spot.place.section c.args.item.offset spot.ordinal c.args.item.bytes c.if-item-eq0.true))

pub returns : goal.returns
returns c =
    let spot = c.args.spot.now in
    let old = map field_of c.args.fields.now.items in
    on_ok_weaker c.push.result
    (λ told.
    told ∙ ap (λ f. old ++ f ∷ []) c.padding_field.ensures
    ∙ ap (λ l. old ++ l) (sym (padding_one spot.place.section c.args.item.offset spot.ordinal c.args.item.bytes c.if-item-eq0.false)))
    c.push.ensures
