use Rattle.std.proofs.Common.{◌≡◌, ◌+◌, ◌*◌, ◌++◌, ◌≤◌, ◌^◌, length, map, drop}
use Rattle.rv_object_types.specs.Sections.{section_of}
use Rattle.rv_link_sites.specs.Line.{ended, places}
use Rattle.rv_link_sites.proofs.line.put_file.Given as goal

-- what is there so far, and what is left, make up the whole
abbrev pub invariant-loop-section : goal.invariant-loop-section
invariant-loop-section l =
    let left = map section_of (drop l.section-index l.sections) in
    record {
      places : l.places.items ++ places l.stop left ≡ l.initial.places.items ++ places l.first (map section_of l.sections);
      ends : ended l.stop left ≡ ended l.first (map section_of l.sections);
      low : 2 * l.stop ≤ length l.places.items * (2 ^ 64 + 4094);
    }
