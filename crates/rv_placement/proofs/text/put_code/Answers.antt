use Rattle.std.proofs.Common.{rules, arith, ◌≡◌, ◌≤◌, ◌<◌, ◌^◌, refl}
use Rattle.rv_object_laws.specs.Object.{size_of}
use Rattle.rv_link_laws.specs.Moves.{moves}
use Rattle.rv_shorten.specs.Sections.{short_section_of}
use Rattle.rv_relax.specs.Kept.{moves_of}
use Rattle.rv_placement.specs.Walk.{end_from}
use Rattle.rv_placement.proofs.TextsLemmas.{shrunk}
use Rattle.rv_placement.proofs.text.put_code.Goals as goal

pub returns-then-end-ceiling-clause-far : goal.returns-then-end-ceiling-clause-far
returns-then-end-ceiling-clause-far c =
    let s = short_section_of c.args.section.now in
    let whole =
    shrunk c.args.start c.new_offset.result c.size-size.result (size_of s.contents) (moves_of c.args.plan.now) (moves c.args.start s) c.new_offset.ensures c.size-size.ensures c.requires.plan in
    omega (arith, whole, c.saturating_add-end.ensures, c.if-end-ceiling.true)

pub returns-clause-placed : goal.returns-clause-placed
returns-clause-placed c =
    let s = short_section_of c.args.section.now in
    let end = c.saturating_add-end.result in
    let whole =
    shrunk c.args.start c.new_offset.result c.size-size.result (size_of s.contents) (moves_of c.args.plan.now) (moves c.args.start s) c.new_offset.ensures c.size-size.ensures c.requires.plan in
    let low : end ≤ c.args.ceiling = c.if-end-ceiling.false in
    let is : end ≡ end_from c.args.start s = omega (arith, whole, c.saturating_add-end.ensures, low, c.requires.high) in
    let sized : size_of s.contents < 2 ^ 64 = search rules in
    let below : end_from c.args.start s < 2 ^ 64 = omega (arith, is, low, c.requires.high) in
    (is, low, (record { start = c.args.start; plan = c.args.plan }, c.in_ok-push.ensures.items, refl, (c.requires.plan, sized, below)))
