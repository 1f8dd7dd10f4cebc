use Rattle.std.proofs.Common.{◌≡◌, ◌++◌, true, drop, map}
use Rattle.std.specs.List.{flat_map, list_all}
use Rattle.rv_firmware.specs.Blocks.{block_of, is_line}
use Rattle.rv_firmware.specs.SRecords.{data_line}
use Rattle.rv_firmware.proofs.motorola.put_lines.Given as goal

abbrev pub invariant-loop-line : goal.invariant-loop-line
invariant-loop-line l =
    let left = map block_of (drop l.line-index l.lines) in
    (list_all is_line left ≡ true)
    × (l.text.items ++ flat_map data_line left
    ≡ l.initial.text.items ++ flat_map data_line (map block_of l.lines))
