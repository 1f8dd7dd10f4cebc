use Rattle.std.proofs.Common.{◌≡◌, ◌∙◌, ◌+◌, ◌%◌, ◌^◌, ap, sym, Some, None}
use Rattle.rv_placement.specs.Placement.{placed_at}
use Rattle.rv_placement.proofs.FoundLemmas.{not_placed}
use Rattle.rv_link_values.proofs.PlacesLemmas.{section_of_input, moved_is}
use Rattle.rv_link_values.proofs.values.Values.moved.Goals as goal

pub returns-in-Some : goal.returns-in-Some
returns-in-Some c = λ os p i h at.
    let q = c.in-Some.placed.now in
    let there : placed_at p c.args.place.file.0 c.args.place.section.0 ≡ Some q = sym (ap (λ r. placed_at r c.args.place.file.0 c.args.place.section.0) h.placement) ∙ sym c.in-Some.ensures in
    ap (λ n. (q.start + n) % 2 ^ 64) c.new_offset.ensures
    ∙ ap (λ n. n % 2 ^ 64) (sym (moved_is os h.bounds p h.placed c.args.place.file.0 c.args.place.section.0 i at q there c.args.place.offset))

pub returns-in-None : goal.returns-in-None
returns-in-None c = λ os p i h at.
    let none : placed_at p c.args.place.file.0 c.args.place.section.0 ≡ None = sym (ap (λ r. placed_at r c.args.place.file.0 c.args.place.section.0) h.placement) ∙ sym c.in-None.ensures in
    absurd (not_placed os h.bounds p h.placed c.args.place.file.0 c.args.place.section.0 i.section (section_of_input os c.args.place.file.0 c.args.place.section.0 i at) none)
