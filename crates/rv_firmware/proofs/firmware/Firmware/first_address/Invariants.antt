use Rattle.std.proofs.Common.{◌≡◌, ◌≤◌, drop, map, min}
use Rattle.rv_firmware.specs.Binary.{first_address}
use Rattle.rv_firmware.specs.Blocks.{block_of}
use Rattle.rv_firmware.proofs.firmware.Firmware.first_address.Given as goal

abbrev pub invariant-loop-block : goal.invariant-loop-block
invariant-loop-block l =
    (min l.first (first_address (map block_of (drop l.block-index l.self.blocks.items)))
    ≡ first_address (map block_of l.self.blocks.items))
    × (l.first ≤ 4294967295)
