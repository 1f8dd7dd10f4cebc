use Rattle.std.proofs.Common.{◌≡◌, ◌++◌, ◌≤◌, take, drop, map}
use Rattle.rv_shorten.specs.Sections.{short_section_of}
use Rattle.rv_placement.specs.Walk.{goes, started, ended}
use Rattle.rv_placement.proofs.regions.move_file.Given as goal

-- what is moved so far, and what is left, make up the whole
abbrev pub invariant-loop-i : goal.invariant-loop-i
invariant-loop-i l =
    (take l.i l.places ++ started (goes l.destination) l.stop (drop l.i l.places) (map short_section_of (drop l.i l.sections)) ≡ started (goes l.destination) l.first l.initial.places (map short_section_of l.sections))
    × (ended (goes l.destination) l.stop (map short_section_of (drop l.i l.sections)) ≡ ended (goes l.destination) l.first (map short_section_of l.sections))
    × (l.stop ≤ l.ceiling)
