use Rattle.rv_draft.proofs.SeenLemmas.{MeasuredTo, SeenThere, measured_begin, measured_more, measured_whole}
use Rattle.std.proofs.Common.{rules, [], ◌++◌, ◌∷◌, arith}
use Rattle.std.proofs.Common.{◌≡◌, ◌+◌, ◌^◌, ◌<◌, ◌≤◌, length, get_or, sym, ap, subst, ◌∙◌, Some}
use Rattle.std.specs.Prelude.{slice_get, slice_index_or}
use Rattle.std.proofs.lemmas.List.{length_push}
use Rattle.rv_statement.specs.Statements.{statements_of}
use Rattle.rv_statement.specs.View.{statement_of}
use Rattle.rv_unit.specs.declared.section_offset.SectionOffset.{SectionOffset}
use Rattle.rv_unit.specs.Unit.{said, IsFilled}
use Rattle.rv_unit.specs.Sections.{offset_of, zeros_offset}
use Rattle.rv_unit_laws.specs.Options.{Options}
use Rattle.rv_unit.proofs.StandingLemmas.{places_count}
use Rattle.rv_draft.proofs.StandingLemmas.{StandsAt, stands_at, located_at, stated_none}
use Rattle.rv_draft.specs.Contents.{IsExtentAt}
use Rattle.rv_draft.proofs.ExtentsLemmas.{place_inside, code_there}
use Rattle.rv_draft.proofs.measure.measured.Goals as goal

pub loop-index-init : goal.loop-index-init
loop-index-init c =
    let none : c.in_ok-items.items ≡ [] = c.in_ok-items.ensures in
    (c.new-scope.ensures.unit, c.new-scope.ensures.start, subst (λ l. MeasuredTo (said c.args.unit.now) 0 l) (sym none) (measured_begin (said c.args.unit.now)), ap length none)

pub bounds-places-index : goal.bounds-places-index
bounds-places-index c =
    let u = c.args.unit.now in
    let i = c.loop-index.index in
    let inside : i < length (said u) = subst (λ n. i < n) (c.len-index-end.ensures ∙ ap (λ s. length (statements_of s)) c.statements-statements.ensures) c.loop-index-test.true in
    let inside' = subst (λ n. i < n) (sym (places_count u c.args.unit.now.filled)) inside in
    subst (λ l. i < length l) (sym c.places-places.ensures) inside'

pub extent_at-extent-requires : goal.extent_at-extent-requires
extent_at-extent-requires c =
    let u = c.args.unit.now in
    let i = c.loop-index.index in
    let p : SectionOffset = slice_index_or c.places-places.result.now i zeros_offset in
    let inside : i < length (said u) = subst (λ n. i < n) (c.len-index-end.ensures ∙ ap (λ s. length (statements_of s)) c.statements-statements.ensures) c.loop-index-test.true in
    let stands : p.section < length u.tables.extents.items =
    place_inside u i zeros_offset p c.args.unit.now.filled inside (ap (λ l. get_or l i zeros_offset) c.places-places.ensures) in
    subst (λ l. p.section < length l) (sym c.sections-extents.ensures) stands

pub read-statement-requires : goal.read-statement-requires
read-statement-requires c = subst (λ n. c.loop-index.index < n) c.len-index-end.ensures c.loop-index-test.true

pub push-requires : goal.push-requires
push-requires c =
    let u = c.args.unit.now in
    let i = c.loop-index.index in
    let inside : i < length (said u) = subst (λ n. i < n) (c.len-index-end.ensures ∙ ap (λ s. length (statements_of s)) c.statements-statements.ensures) c.loop-index-test.true in
    let few : length (said u) ≤ 2 ^ 22 = u.few in
    let far : length c.loop-index.items ≡ i = c.loop-index.invariant.3 in
    omega arith

pub loop-index-preserved : goal.loop-index-preserved
loop-index-preserved c =
    let u = c.args.unit.now in
    let i = c.loop-index.index in
    let x = statement_of c.read-statement.result.now in
    let p : SectionOffset = slice_index_or c.places-places.result.now i zeros_offset in
    let inside : i < length (said u) = subst (λ n. i < n) (c.len-index-end.ensures ∙ ap (λ s. length (statements_of s)) c.statements-statements.ensures) c.loop-index-test.true in
    let is : slice_get (said u) i ≡ Some x = subst (λ s. slice_get (statements_of s) i ≡ Some x) c.statements-statements.ensures c.read-statement.ensures in
    let at : StandsAt u i x p = stands_at u i x zeros_offset p c.args.unit.now.filled is (ap (λ l. get_or l i zeros_offset) c.places-places.ensures) in
    let rvc = c.rvc-compressed.result in
    let same = c.loop-index.invariant.0 in
    let filled = subst IsFilled (sym same) c.args.unit.now.filled in
    let on : rvc ≡ (located_at (said u) i x).options.rvc =
    c.rvc-compressed.ensures ∙ ap (λ (o : Options). o.rvc) (c.options_at.ensures inside) in
    let e = c.extent_at-extent.result in
    let there : IsExtentAt u.tables.extents.items p.section e = subst (λ l. IsExtentAt l p.section e) c.sections-extents.ensures c.extent_at-extent.ensures in
    let seen : SeenThere u (i + 1) (offset_of p) p.section u.places.items e.section.executable rvc x c.seen.result =
    subst (λ w. SeenThere w (i + 1) (offset_of p) p.section u.places.items e.section.executable rvc x c.seen.result) same
    (subst (λ l. SeenThere c.loop-index.scope.unit.now (i + 1) (offset_of p) p.section l e.section.executable rvc x c.seen.result) c.places-places.ensures
    (c.seen.ensures i filled c.loop-index.invariant.1)) in
    let more : c.push.new.self ≡ c.loop-index.items ++ c.seen.result ∷ [] = search rules in
    let within' = subst (λ w. i < length (said w)) (sym same) inside in (
      ap (λ b. b.now) c.pass.ensures.unit ∙ same,
      c.pass.ensures.passes i within' c.loop-index.invariant.1,
      measured_more u i x p rvc e.section.executable c.loop-index.items c.push.new.self c.seen.result c.args.unit.now.filled at on (code_there u i x p e at there) seen c.loop-index.invariant.2 more,
      ap length more ∙ length_push c.loop-index.items c.seen.result ∙ ap (λ n. n + 1) c.loop-index.invariant.3,
    )

pub returns : goal.returns
returns c =
    let u = c.args.unit.now in
    let i = c.loop-index.index in
    let past : length (said u) ≤ i = subst (λ n. n ≤ i) (c.len-index-end.ensures ∙ ap (λ s. length (statements_of s)) c.statements-statements.ensures) c.loop-index-test.false in
    measured_whole (said u) i c.loop-index.items (stated_none (said u) i past) c.loop-index.invariant.2
