use Rattle.std.proofs.Common.{◌≡◌, ◌<◌, ◌≤◌, max, map, drop}
use Rattle.rv_shorten.specs.Sections.{short_section_of}
use Rattle.rv_placement.specs.Walk as walk
use Rattle.rv_placement.proofs.alignment.greatest_in.Given as goal

abbrev pub invariant-loop-section : goal.invariant-loop-section
invariant-loop-section l =
    (max l.greatest (walk.greatest_in (walk.goes l.destination) (map short_section_of (drop l.section-index l.sections))) ≡ walk.greatest_in (walk.goes l.destination) (map short_section_of l.sections))
    × (0 < l.greatest) × (l.greatest ≤ 4096)
