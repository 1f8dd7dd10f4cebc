use Rattle.std.proofs.Common.{◌≡◌, ◌≤◌, ◌^◌, drop, map, max}
use Rattle.rv_firmware.specs.Binary.{end_address}
use Rattle.rv_firmware.specs.Blocks.{block_of}
use Rattle.rv_firmware.proofs.firmware.Firmware.end_address.Given as goal

abbrev pub invariant-loop-block : goal.invariant-loop-block
invariant-loop-block l =
    (max l.end (end_address (map block_of (drop l.block-index l.self.blocks.items)))
    ≡ end_address (map block_of l.self.blocks.items))
    × (l.end ≤ 2 ^ 32)
