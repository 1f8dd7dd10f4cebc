use Rattle.std.proofs.Common.{◌≡◌, ◌<◌, ◌≤◌, length, get_or, sym, ap, subst, ◌∙◌, Some}
use Rattle.std.specs.Prelude.{slice_get, slice_index_or}
use Rattle.rv_statement.specs.Statements.{statements_of}
use Rattle.rv_statement.specs.View.{statement_of}
use Rattle.rv_statement_laws.specs.Statement.{Statement}
use Rattle.rv_unit_laws.specs.Options.{Options}
use Rattle.rv_unit.specs.Sections.{zeros_offset}
use Rattle.rv_unit.specs.declared.section_offset.SectionOffset.{SectionOffset}
use Rattle.rv_source_laws.specs.Compressed.{is_compressed_code}
use Rattle.rv_unit.specs.Unit.{said}
use Rattle.rv_unit.proofs.StandingLemmas.{places_count}
use Rattle.rv_draft.specs.Contents.{IsExtentAt}
use Rattle.rv_draft.proofs.StandingLemmas.{StandsAt, stands_at, located_at, stated_none}
use Rattle.rv_draft.proofs.ExtentsLemmas.{place_inside}
use Rattle.rv_draft.proofs.FirstCodeLemmas.{compressed_as, all_decide, decided, left_to_others, none_decides}
use Rattle.rv_draft.proofs.compressed.has_compressed.Goals.{In-loop-index, After-is_compressed}
use Rattle.rv_draft.proofs.compressed.has_compressed.Goals as goal

-- The statement's index is below their number, and its place is in a section.
module _ (c : In-loop-index) where
  abbrev place : SectionOffset
  place = slice_index_or c.places-places.result.now c.loop-index.index zeros_offset

  inside : c.loop-index.index < length (said c.args.unit.now)
  inside = subst (λ n. c.loop-index.index < n) (c.len-index-end.ensures ∙ ap (λ l. length (statements_of l)) c.statements-statements.ensures) c.loop-index-test.true

  stands : place.section < length c.args.unit.now.tables.extents.items
  stands = place_inside c.args.unit.now c.loop-index.index zeros_offset place c.args.unit.now.filled inside (ap (λ l. get_or l c.loop-index.index zeros_offset) c.places-places.ensures)

-- The statement where it stands, its section, and whether its code may be compressed.
module _ (c : After-is_compressed) where
  abbrev statement : Statement
  statement = statement_of c.read-statement.result.now

  abbrev home : SectionOffset
  home = slice_index_or c.places-places.result.now c.loop-index.index zeros_offset

  standing : StandsAt c.args.unit.now c.loop-index.index statement home
  standing =
      let is : slice_get (said c.args.unit.now) c.loop-index.index ≡ Some statement = subst (λ l. slice_get (statements_of l) c.loop-index.index ≡ Some statement) c.statements-statements.ensures c.read-statement.ensures in
      stands_at c.args.unit.now c.loop-index.index statement zeros_offset home c.args.unit.now.filled is (ap (λ l. get_or l c.loop-index.index zeros_offset) c.places-places.ensures)

  found : c.loop-index.index < length (said c.args.unit.now) → c.is_compressed.result ≡ is_compressed_code (located_at (said c.args.unit.now) c.loop-index.index statement)
  found inside =
      let e = c.extent_at-extent.result in
      let there : IsExtentAt c.args.unit.now.tables.extents.items home.section e = subst (λ l. IsExtentAt l home.section e) c.sections-extents.ensures c.extent_at-extent.ensures in
      let on : c.rvc-compressed.result ≡ (located_at (said c.args.unit.now) c.loop-index.index statement).options.rvc = c.rvc-compressed.ensures ∙ ap (λ (o : Options). o.rvc) (c.options_at.ensures inside) in
      c.is_compressed.ensures ∙ compressed_as c.args.unit.now c.loop-index.index c.read-statement.result.now home e c.rvc-compressed.result standing there on

pub loop-index-init : goal.loop-index-init
loop-index-init c = all_decide (said c.args.unit.now)

pub bounds-places-index : goal.bounds-places-index
bounds-places-index c =
    let within = subst (λ n. c.loop-index.index < n) (sym (places_count c.args.unit.now c.args.unit.now.filled)) (inside (goal.at.bounds-places-index c).In-loop-index) in
    subst (λ l. c.loop-index.index < length l) (sym c.places-places.ensures) within

pub extent_at-extent-requires : goal.extent_at-extent-requires
extent_at-extent-requires c =
    let h = (goal.at.extent_at-extent-requires c).In-loop-index in
    subst (λ l. (place h).section < length l) (sym c.sections-extents.ensures) (stands h)

pub read-statement-requires : goal.read-statement-requires
read-statement-requires c = subst (λ n. c.loop-index.index < n) c.len-index-end.ensures c.loop-index-test.true

pub returns-then-is_compressed : goal.returns-then-is_compressed
returns-then-is_compressed c =
    let h = (goal.at.returns-then-is_compressed c).After-is_compressed in
    let ss = said c.args.unit.now in
    decided ss c.loop-index.index (located_at ss c.loop-index.index (statement h)) (standing h).next c.loop-index.invariant
    (sym c.if-is_compressed.true ∙ found h (inside (goal.at.returns-then-is_compressed c).In-loop-index))

pub loop-index-preserved : goal.loop-index-preserved
loop-index-preserved c =
    let h = (goal.at.loop-index-preserved c).After-is_compressed in
    let ss = said c.args.unit.now in
    left_to_others ss c.loop-index.index (located_at ss c.loop-index.index (statement h)) (standing h).next c.loop-index.invariant
    (sym c.if-is_compressed.false ∙ found h (inside (goal.at.loop-index-preserved c).In-loop-index))

pub returns : goal.returns
returns c =
    let u = c.args.unit.now in
    let i = c.loop-index.index in
    let past : length (said u) ≤ i = subst (λ n. n ≤ i) (c.len-index-end.ensures ∙ ap (λ l. length (statements_of l)) c.statements-statements.ensures) c.loop-index-test.false in
    none_decides (said u) i (stated_none (said u) i past) c.loop-index.invariant
