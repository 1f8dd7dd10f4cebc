use Rattle.std.proofs.Common.{◌≡◌, ◌++◌, length, map, flat_map}
use Rattle.std.specs.List.{AllByRecursion}
use Rattle.rv_map_laws.specs.Limits.{IsDrop}
use Rattle.rv_map_laws.specs.Text.{line_text, drop_line}
use Rattle.rv_map.proofs.reading.drops_of.Given as goal

abbrev pub invariant-loop-section : goal.invariant-loop-section
invariant-loop-section l = record {
  text : l.bytes ≡ flat_map line_text (map drop_line l.drops.items) ++ l.rest;
  fit : AllByRecursion IsDrop l.drops.items;
}

abbrev pub decreases-loop-section : goal.decreases-loop-section
decreases-loop-section l = length l.rest
