use Rattle.std.proofs.Common.{◌≡◌, ◌<◌, length, ◌∙◌, ◌==◌, ◌&&◌, ap, sym, arith, Some, refl, get_or}
use Rattle.std.specs.Prelude.{if◌then◌else◌}
use Rattle.std.specs.List.{slice_get}
use Rattle.std.proofs.lemmas.Option.{slice_get_read}
use Rattle.rv_shorten.specs.Sections.{short_section_of}
use Rattle.rv_placement.specs.Placement.{placed_at, placed_in}
use Rattle.rv_link_values.specs.Highs.{else_found, high_in}
use Rattle.rv_link_values.proofs.StepsLemmas.{section_step}
use Rattle.rv_link_values.proofs.high.Highs.add_object.Goals as goal

pub loop-index-preserved : goal.loop-index-preserved
loop-index-preserved c = λ f s x.
    let p = c.args.placement.now in
    let file = c.args.file.0 in
    let i = c.loop-index.index in
    let t = c.section-item.result in
    let ss = c.args.object.now.sections.items in
    let places = c.in-Some.places.now in
    let found_at = c.in-Some.ensures.lookup in
    let there : slice_get p.files.items file ≡ Some places =
    ap (λ l. slice_get l file) (sym c.deref.ensures.value) ∙ slice_get_read c.deref.result.now _ file places refl found_at.3.0 found_at.1 in
    let at : slice_get c.deref-in-loop-index.result.now i ≡ placed_at p file i =
    ap (λ l. slice_get l i) c.deref-in-loop-index.ensures.value ∙ ap (λ o. placed_in o i) (sym there) in
    let sections : c.deref-section-items.result.now ≡ ss = c.deref-section-items.ensures.value in
    let is : t ≡ get_or ss i t = c.section-item.is ∙ ap (λ l. get_or l i t) sections in
    let inside : i < length ss = omega (arith, c.loop-index-test.true, ap length sections) in
    c.in_ok-add_section.ensures f s x
    ∙ ap (λ o. if (file == f) && (i == s) then else_found (high_in (slice_get c.deref-in-loop-index.result.now i) (Some (short_section_of t)) x) o else o) (c.loop-index.invariant f s x)
    ∙ section_step (slice_get c.deref-in-loop-index.result.now i) (placed_at p file s) ss i _ s x t (file == f) _ inside is (omega arith)
    (λ same here. at ∙ ap (placed_at p file) here)
