use Rattle.std.proofs.Common.{◌≡◌, ◌++◌, ◌≤◌, take, drop, map}
use Rattle.std.specs.List.{AllZip}
use Rattle.rv_link_laws.specs.Inputs.{goes_to_text}
use Rattle.rv_shorten.specs.Sections.{short_section_of}
use Rattle.rv_placement.specs.Walk.{ended, text_starts, gapped, IsKept}
use Rattle.rv_placement.proofs.text.put_file.Given as goal

-- what is placed so far, and what is left, make up the whole
abbrev pub invariant-loop-i : goal.invariant-loop-i
invariant-loop-i l =
    (map (λ q. q.start) l.places.items ++ text_starts l.stop (map short_section_of (drop l.i l.sections)) ≡ text_starts l.first (map short_section_of l.sections))
    × (ended goes_to_text l.stop (map short_section_of (drop l.i l.sections)) ≡ ended goes_to_text l.first (map short_section_of l.sections))
    × (l.stop ≤ l.ceiling)
    × AllZip IsKept (map short_section_of (take l.i l.sections)) l.places.items
    × (l.gaps.items ++ gapped l.stop (map short_section_of (drop l.i l.sections)) ≡ l.initial.gaps.items ++ gapped l.first (map short_section_of l.sections))
