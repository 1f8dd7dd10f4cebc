use Rattle.std.proofs.Common.{◌≡◌, ◌+◌, ◌∙◌, ap, map, drop, [], ◌∷◌}
use Rattle.std.proofs.lemmas.List.{map-append}
use Rattle.rv_list_laws.proofs.TakeDropLemmas.{drop_next}
use Rattle.rv_statement.specs.Statements.{statements_of}
use Rattle.rv_statement.specs.View.{statement_of}
use Rattle.rv_unit.specs.Options.{options_of}
use Rattle.rv_unit.specs.Sections.{offset_of}
use Rattle.rv_unit.specs.Tables.{tables_of}
use Rattle.rv_unit.proofs.FillingLemmas.{fills_more, options_more}
use Rattle.rv_unit.proofs.tables.Tables.stand_all.Goals as goal

pub loop-index-preserved : goal.loop-index-preserved
loop-index-preserved c =
    let i = c.loop-index.index in
    let ss = statements_of c.args.statements.now in
    let x = statement_of c.read-statement.result.now in
    let next : drop i ss ≡ x ∷ drop (i + 1) ss = drop_next ss i x c.read-statement.ensures in (
      (λ start indexed.
          let f = c.loop-index.invariant.0 start indexed in
          let good = c.loop-index.invariant.1 start indexed in
          fills_more (tables_of c.loop-index.self) (tables_of c.stand.new.self) i x (drop i ss) (drop (i + 1) ss) ss
          (map offset_of c.loop-index.places.items) (map offset_of c.push-in-loop-index.new.self.items) (offset_of c.in_ok-place.place) f next (c.in_ok-place.ensures.tables good f.before) (c.in_ok-place.ensures.place good f.before)
          (ap (map offset_of) c.in_ok-push-2.ensures.items ∙ map-append offset_of c.loop-index.places.items (c.in_ok-place.place ∷ []))),
      (λ start indexed. c.in_ok-place.ensures.indexed (c.loop-index.invariant.1 start indexed) (c.loop-index.invariant.0 start indexed).before),
      (λ start indexed.
          let f = c.loop-index.invariant.0 start indexed in
          let good = c.loop-index.invariant.1 start indexed in
          options_more (tables_of c.loop-index.self) (tables_of c.stand.new.self) i x (drop i ss) (drop (i + 1) ss) ss
          (map options_of c.loop-index.options.items) (map options_of c.push.new.self.items) (c.loop-index.invariant.2 start indexed) next (c.in_ok-place.ensures.tables good f.before)
          (ap (map options_of) c.in_ok-push.ensures.items ∙ map-append options_of c.loop-index.options.items (c.loop-index.self.options ∷ []))),
    )
