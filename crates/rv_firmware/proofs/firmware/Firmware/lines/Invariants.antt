use Rattle.std.proofs.Common.{◌≡◌, ◌++◌, true, drop, map}
use Rattle.std.specs.List.{list_all}
use Rattle.rv_firmware.specs.Blocks.{block_of, cells_of, is_line}
use Rattle.rv_firmware.proofs.firmware.Firmware.lines.Given as goal

abbrev pub invariant-loop-block : goal.invariant-loop-block
invariant-loop-block l =
    (list_all is_line (map block_of l.lines.items) ≡ true)
    × (cells_of (map block_of l.lines.items) ++ cells_of (map block_of (drop l.block-index l.self.blocks.items))
    ≡ cells_of (map block_of l.self.blocks.items))
