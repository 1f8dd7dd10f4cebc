use Rattle.std.proofs.Common.{◌≡◌, ◌++◌, length, map, flat_map}
use Rattle.std.specs.List.{AllByRecursion}
use Rattle.rv_map_laws.specs.Limits.{IsRow}
use Rattle.rv_map_laws.specs.Text.{line_text, row_line}
use Rattle.rv_map.proofs.reading.rows_of.Given as goal

abbrev pub invariant-loop-row : goal.invariant-loop-row
invariant-loop-row l = record {
  text : l.bytes ≡ flat_map line_text (map row_line l.rows.items) ++ l.rest;
  fit : AllByRecursion IsRow l.rows.items;
}

abbrev pub decreases-loop-row : goal.decreases-loop-row
decreases-loop-row l = length l.rest
