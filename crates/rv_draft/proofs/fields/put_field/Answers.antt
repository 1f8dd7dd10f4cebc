use Rattle.std.proofs.Common.{◌++◌, ◌∙◌, map, ap}
use Rattle.std.proofs.lemmas.Result.{on_ok_weaker}
use Rattle.rv_assemble_laws.specs.Fields.{field_at}
use Rattle.rv_draft.specs.Draft.{field_of}
use Rattle.rv_draft.proofs.fields.put_field.Goals as goal

pub returns : goal.returns
returns c =
    let spot = c.args.spot.now in
    on_ok_weaker c.put_found.result
    (λ told index f s own.
    told ∙ ap (λ o. map field_of c.args.fields.now.items ++ map (field_at spot.place.section c.args.place) o) (c.open_field-found.ensures index f s own))
    c.put_found.ensures
