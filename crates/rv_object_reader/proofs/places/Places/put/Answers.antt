use Rattle.std.proofs.Common.{◌≡◌, ◌≢◌, ◌<◌, ◌≤◌, ◌^◌, ◌+◌, ◌++◌, ℕ, sym, ap, ◌∙◌, arith}
use Rattle.std.specs.List.{list_any}
use Rattle.rv_object_reader.specs.Stretches.{placed, starts_in}
use Rattle.rv_object_reader.proofs.MeetingLemmas.{put_nothing, put_field, put_padding, meets_padding, meets_field, held_by}
use Rattle.rv_object_reader.proofs.EntriesLemmas.{any_late}
use Rattle.rv_object_reader.proofs.places.Places.put.Goals as goal

pub returns-then-count-eq0 : goal.returns-then-count-eq0
returns-then-count-eq0 c = λ before hold. put_nothing _ _ before (placed c.args.rela.now c.args.kind) hold (sym c.count_held-count.ensures ∙ c.if-count-eq0.true)

pub returns-then-meet : goal.returns-then-meet
returns-then-meet c = λ before hold. meets_padding _ _ before (placed c.args.rela.now c.args.kind) hold c.count_held-count.result c.count_held-count.ensures
    (omega (arith, c.if-count-eq0.false)) (sym c.meet.ensures ∙ c.if-meet.true)

pub returns-then-not-is_align : goal.returns-then-not-is_align
returns-then-not-is_align c = λ before hold. put_field _ _ before (placed c.args.rela.now c.args.kind) hold _ c.count_held-count.result c.count_held-count.ensures
    (omega (arith, c.if-count-eq0.false)) (sym c.is_align.ensures ∙ c.if-not-is_align.true) (sym c.meet.ensures ∙ c.if-meet.false)
    (λ a b. ap (λ l. list_any (starts_in a b) (l ++ c.args.self.now.fields.by_start.entries)) c.in_ok-put.ensures
    ∙ any_late (starts_in a b) c.args.self.now.recent.spans.items c.args.self.now.fields.by_start.entries _)

pub returns-then-met : goal.returns-then-met
returns-then-met c = λ before hold. meets_field _ _ before (placed c.args.rela.now c.args.kind) hold c.count_held-count.result c.count_held-count.ensures
    (omega (arith, c.if-count-eq0.false)) (sym c.is_align.ensures ∙ c.if-not-is_align.false) (sym c.in_ok-met.ensures.meet ∙ c.if-met.true)

pub returns : goal.returns
returns c = λ before hold. put_padding _ _ before (placed c.args.rela.now c.args.kind) (held_by _ _ _ before hold c.in_ok-met.ensures.same)
    _ c.count_held-count.result c.count_held-count.ensures
    (omega (arith, c.if-count-eq0.false)) (sym c.is_align.ensures ∙ c.if-not-is_align.false) (sym c.meet.ensures ∙ c.if-meet.false)
    (c.in_ok-met.ensures.same _ _ ∙ sym c.in_ok-met.ensures.meet ∙ c.if-met.false) c.in_ok-put-2.ensures

inside : (place count held size : ℕ) → count ≡ held → count ≢ 0 → (0 < held → place + held ≤ size) → size < 2 ^ 64 → place + count < 2 ^ 64
inside place count held size same some fits small =
    let has : 0 < held = omega (arith, same, some) in
    let ends : place + held ≤ size = fits has in
    omega (arith, same, ends, small)

pub overflow_add-end : goal.overflow_add-end
overflow_add-end c = record {
  fits = inside c.args.rela.now.r_offset c.count_held-count.result _ c.args.size c.count_held-count.ensures c.if-count-eq0.false c.requires.inside c.ranges.size.fits;
}
