use Rattle.std.proofs.Common.{◌≡◌, ◌∙◌, ap, sym, rules, w64, Some, None}
use Rattle.std.proofs.lemmas.Int.{to_z-of_z}
use Rattle.rv_object_types.specs.Parts.{relocation_of}
use Rattle.rv_link_laws.specs.Moves.{new_offset}
use Rattle.rv_link_laws.specs.Layout.{outer_in}
use Rattle.rv_relax.specs.Kept.{moves_of}
use Rattle.rv_placement.specs.Placement.{placed_at, layout_of}
use Rattle.rv_link_values.specs.Highs.{high_of}
use Rattle.rv_link_values.proofs.PairsLemmas.{without_place, without_high, with_high}
use Rattle.rv_link_values.proofs.values.Values.value_at.Goals as goal

pub returns-in_err-placed : goal.returns-in_err-placed
returns-in_err-placed c = λ os p h.
    let none : placed_at p c.args.place.file.0 c.args.place.section.0 ≡ None = sym (ap (λ r. placed_at r c.args.place.file.0 c.args.place.section.0) h.placement) ∙ sym c.in_err-placed.ensures in
    c.from_residual.ensures ∙ without_place os h.bounds p h.placed (outer_in os (layout_of p)) c.args.place.file.0 c.args.place.section.0 c.args.place.offset none

pub returns-in_err-high : goal.returns-in_err-high
returns-in_err-high c = λ os p h.
    let q = c.in_ok-placed.placed.now in
    let there : placed_at p c.args.place.file.0 c.args.place.section.0 ≡ Some q = sym (ap (λ r. placed_at r c.args.place.file.0 c.args.place.section.0) h.placement) ∙ sym c.in_ok-placed.ensures in
    let none : high_of p os c.args.place.file.0 c.args.place.section.0 (new_offset (moves_of q.plan.now) c.args.place.offset) ≡ None =
    ap (high_of p os c.args.place.file.0 c.args.place.section.0) (sym c.new_offset.ensures)
    ∙ sym (h.highs c.args.place.file.0 c.args.place.section.0 c.new_offset.result)
    ∙ sym c.in_err-high.ensures in
    c.from_residual-in_err-high.ensures ∙ without_high os h.bounds p h.placed (outer_in os (layout_of p)) c.args.place.file.0 c.args.place.section.0 c.args.place.offset q there none

pub returns : goal.returns
returns c = λ os p h.
    let q = c.in_ok-placed.placed.now in
    let there : placed_at p c.args.place.file.0 c.args.place.section.0 ≡ Some q = sym (ap (λ r. placed_at r c.args.place.file.0 c.args.place.section.0) h.placement) ∙ sym c.in_ok-placed.ensures in
    let high : high_of p os c.args.place.file.0 c.args.place.section.0 (new_offset (moves_of q.plan.now) c.args.place.offset) ≡ Some (relocation_of c.in_ok-high.high) =
    ap (high_of p os c.args.place.file.0 c.args.place.section.0) (sym c.new_offset.ensures)
    ∙ sym (h.highs c.args.place.file.0 c.args.place.section.0 c.new_offset.result)
    ∙ sym c.in_ok-high.ensures in
    with_high os h.bounds p h.placed (outer_in os (layout_of p)) c.args.place.file.0 c.args.place.section.0 c.args.place.offset q there (relocation_of c.in_ok-high.high) high _
    (λ i at. to_z-of_z w64 c.own_value.result (search rules) ∙ c.own_value.ensures os p i h at)
