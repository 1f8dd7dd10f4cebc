use Rattle.std.proofs.Common.{◌≡◌, ◌++◌, length, map, flat_map}
use Rattle.std.specs.List.{AllByRecursion}
use Rattle.rv_map_laws.specs.Limits.{IsRegion}
use Rattle.rv_map_laws.specs.Text.{line_text, gap_line}
use Rattle.rv_map.proofs.reading.gaps_of.Given as goal

abbrev pub invariant-loop-gap : goal.invariant-loop-gap
invariant-loop-gap l = record {
  text : l.bytes ≡ flat_map line_text (map gap_line l.gaps.items) ++ l.rest;
  fit : AllByRecursion IsRegion l.gaps.items;
}

abbrev pub decreases-loop-gap : goal.decreases-loop-gap
decreases-loop-gap l = length l.rest
