use Rattle.std.proofs.Common.{◌≡◌, ◌++◌, take, drop, map, flat_map, All}
use Rattle.rv_map_laws.specs.Limits.{IsDrop}
use Rattle.rv_map_laws.specs.Text.{line_text, drop_line}
use Rattle.rv_map.proofs.writing.put_drops.Given as goal

-- what is written, and the lines that are left, make up the whole
abbrev pub invariant-loop-section : goal.invariant-loop-section
invariant-loop-section l = record {
  written : l.text.items ++ flat_map line_text (map drop_line (drop l.section-index l.drops)) ≡ l.initial.text.items ++ flat_map line_text (map drop_line l.drops);
  known : All IsDrop (take l.section-index l.drops);
}
