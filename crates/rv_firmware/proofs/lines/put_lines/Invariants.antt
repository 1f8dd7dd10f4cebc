use Rattle.std.proofs.Common.{◌≡◌, ◌+◌, ◌-◌, ◌++◌, ◌≤◌, true, length, map, drop}
use Rattle.std.specs.List.{list_all}
use Rattle.rv_firmware.specs.Blocks.{block_of, cells_of, cells_from, is_line}
use Rattle.rv_firmware.proofs.lines.put_lines.Given as goal

abbrev pub invariant-loop-at : goal.invariant-loop-at
invariant-loop-at l =
    (l.at ≤ length l.block.bytes.now)
    × (list_all is_line (map block_of l.initial.lines.items) ≡ true → list_all is_line (map block_of l.lines.items) ≡ true)
    × (cells_of (map block_of l.lines.items) ++ cells_from (l.block.address + l.at) (drop l.at l.block.bytes.now)
    ≡ cells_of (map block_of l.initial.lines.items) ++ cells_from l.block.address l.block.bytes.now)

abbrev pub decreases-loop-at : goal.decreases-loop-at
decreases-loop-at l = length l.block.bytes.now - l.at
