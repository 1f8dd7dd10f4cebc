use Rattle.std.proofs.Common.{length, get_or, ap, ◌∙◌, arith}
use Rattle.std.specs.Option.{is_some}
use Rattle.rv_object_reader.proofs.KeptSectionsLemmas.{places_long, placed_at, has_place}
use Rattle.rv_object_reader.proofs.checked.Checked.place.Goals as goal

pub index-requires : goal.index-requires
index-requires c =
    let checked = c.args.self.now in
    omega (arith, ap length checked.placed, places_long checked.view.file.now)

pub returns-clause-place : goal.returns-clause-place
returns-clause-place c =
    let checked = c.args.self.now in
    c.index.ensures ∙ ap (λ places. get_or places c.args.index.0 c.index.result.now) checked.placed
    ∙ placed_at checked.view.file.now c.args.index.0 c.index.result.now (omega arith)

pub returns-clause-kept : goal.returns-clause-kept
returns-clause-kept c some =
    let checked = c.args.self.now in
    ap is_some (c.index.ensures ∙ ap (λ places. get_or places c.args.index.0 c.index.result.now) checked.placed
    ∙ placed_at checked.view.file.now c.args.index.0 c.index.result.now (omega arith))
    ∙ has_place checked.view.file.now c.args.index.0 some c.requires
