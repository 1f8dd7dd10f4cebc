use Rattle.std.proofs.Common.{◌≡◌, ◌-◌, length, drop, map}
use Rattle.rv_firmware.specs.Binary.{binary_of, with_blocks, first_address, end_address}
use Rattle.rv_firmware.specs.Blocks.{block_of}
use Rattle.rv_firmware.proofs.raw.binary.Given as goal

abbrev pub invariant-loop-block : goal.invariant-loop-block
invariant-loop-block l =
    (with_blocks l.first l.bytes.items (map block_of (drop l.block-index l.firmware.blocks.items))
    ≡ binary_of l.fill (map block_of l.firmware.blocks.items))
    × (length l.bytes.items ≡ end_address (map block_of l.firmware.blocks.items) - first_address (map block_of l.firmware.blocks.items))
