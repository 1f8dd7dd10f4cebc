use Rattle.rv_shorten.specs.Sections.{short_section_of}
use Rattle.rv_relax.specs.Kept.{moves_of}
use Rattle.rv_link.proofs.StepsLemmas.{none_inside}
use Rattle.rv_link.proofs.fixed.Fixed.judge.Goals as goal

pub relocate-requires-clause-inside : goal.relocate-requires-clause-inside
relocate-requires-clause-inside c =
    let s = short_section_of c.args.input.now.section.now in
    none_inside s.contents (moves_of c.args.input.now.placed.now.plan.now) _ s.relocations c.requires.zeroed c.args.input.now.section.now.inside
