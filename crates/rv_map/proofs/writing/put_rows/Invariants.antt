use Rattle.std.proofs.Common.{◌≡◌, ◌++◌, take, drop, map, flat_map, All}
use Rattle.rv_map_laws.specs.Limits.{IsRow}
use Rattle.rv_map_laws.specs.Text.{line_text, row_line}
use Rattle.rv_map.proofs.writing.put_rows.Given as goal

-- what is written, and the lines that are left, make up the whole
abbrev pub invariant-loop-row : goal.invariant-loop-row
invariant-loop-row l = record {
  written : l.text.items ++ flat_map line_text (map row_line (drop l.row-index l.rows)) ≡ l.initial.text.items ++ flat_map line_text (map row_line l.rows);
  known : All IsRow (take l.row-index l.rows);
}
