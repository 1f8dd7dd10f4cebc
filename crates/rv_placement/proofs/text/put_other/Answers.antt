use Rattle.std.proofs.Common.{rules, arith, refl, ◌<◌, ◌^◌}
use Rattle.rv_object_laws.specs.Object.{size_of}
use Rattle.rv_shorten.specs.Sections.{short_section_of}
use Rattle.rv_placement.specs.Walk.{end_from}
use Rattle.rv_placement.proofs.text.put_other.Goals as goal

pub returns : goal.returns
returns c =
    let s = short_section_of c.args.section.now in
    let sized : size_of s.contents < 2 ^ 64 = search rules in
    let below : end_from 0 s < 2 ^ 64 = omega (arith, sized) in
    (record { start = 0; plan = c.args.plan }, c.in_ok-push.ensures.items, refl, (c.requires, sized, below))
