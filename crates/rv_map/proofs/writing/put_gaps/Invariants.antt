use Rattle.std.proofs.Common.{◌≡◌, ◌++◌, take, drop, map, flat_map, All}
use Rattle.rv_map_laws.specs.Limits.{IsRegion}
use Rattle.rv_map_laws.specs.Text.{line_text, gap_line}
use Rattle.rv_map.proofs.writing.put_gaps.Given as goal

-- what is written, and the lines that are left, make up the whole
abbrev pub invariant-loop-gap : goal.invariant-loop-gap
invariant-loop-gap l = record {
  written : l.text.items ++ flat_map line_text (map gap_line (drop l.gap-index l.gaps)) ≡ l.initial.text.items ++ flat_map line_text (map gap_line l.gaps);
  known : All IsRegion (take l.gap-index l.gaps);
}
