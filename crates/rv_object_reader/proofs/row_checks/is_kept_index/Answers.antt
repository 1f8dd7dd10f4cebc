use Rattle.std.proofs.Common.{◌<◌, ◌≡◌, Some, None, length, get_or, max, ap, sym, ◌∙◌, arith}
use Rattle.std.specs.Prelude.{if◌then◌else◌}
use Rattle.std.specs.Option.{is_some}
use Rattle.std.proofs.lemmas.Bool.{cond-false}
use Rattle.rv_elf_laws.specs.Sections.{section_count}
use Rattle.rv_object_reader.specs.Found.{section_at}
use Rattle.rv_object_reader.specs.Found.{place_at}
use Rattle.rv_object_reader.proofs.KeptSectionsLemmas.{long_places, places_long, placed_at, kept_by, some_below, past_count, is_behind}
use Rattle.rv_object_reader.proofs.row_checks.is_kept_index.Goals.{After-is_some}
use Rattle.rv_object_reader.proofs.row_checks.is_kept_index.Goals as goal

-- The index is below the count, and whether its section has a place.
module _ (c : After-is_some) where
  below : c.args.index < max 1 (section_count c.args.tables.now.names.view.file.now)
  below = omega (arith, ap length c.args.tables.now.placed, long_places c.args.tables.now.names.view.file.now)

  has_place : c.is_some.result ≡ is_some (place_at c.args.tables.now.names.view.file.now c.args.index)
  has_place =
      let file = c.args.tables.now.names.view.file.now in
      c.is_some.ensures ∙ ap is_some (c.index.ensures ∙ ap (λ places. get_or places c.args.index c.index.result.now) c.args.tables.now.placed ∙ placed_at file c.args.index c.index.result.now below)

pub returns-then-index-len-clause-kept : goal.returns-then-index-len-clause-kept
returns-then-index-len-clause-kept c =
    let h = (goal.at.returns-then-index-len-clause-kept c).After-is_some in
    let file = c.args.tables.now.names.view.file.now in
    kept_by file c.args.index (below h) ∙ ap (λ b. if b then Some (section_at file c.args.index) else None) (sym (has_place h))

pub returns-then-index-len-clause-within : goal.returns-then-index-len-clause-within
returns-then-index-len-clause-within c some =
    let h = (goal.at.returns-then-index-len-clause-within c).After-is_some in
    some_below c.args.tables.now.names.view.file.now c.args.index (below h) (sym (has_place h) ∙ some)

pub returns-else-index-len-clause-kept : goal.returns-else-index-len-clause-kept
returns-else-index-len-clause-kept c =
    let tables = c.args.tables.now in
    let file = tables.names.view.file.now in
    let j = c.args.index in
    past_count file j (omega (arith, ap length tables.placed, places_long file))
    ∙ sym (cond-false _ _ _ (is_behind j c.len.result (omega arith)))
