-- The text that `$readmemh` reads, a byte a word (IEEE 1364-2005, section 17.2.9).

use Rattle.std.specs.Prelude.{ℕ, ◌≡◌, true, List, [], ◌∷◌, ◌++◌, flat_map}
use Rattle.std.specs.List.{list_all}
use Rattle.hex.specs.Hex.{encode_upper}
use Rattle.rv_firmware.specs.Blocks.{Block, cells_of, is_line}
use Rattle.rv_firmware.specs.FirmwareOf.{Firmware}
use Rattle.rv_firmware.specs.SRecords.{four}

-- an address, and the words from it on
abbrev pub memory_line : Block → List ℕ
memory_line b =
    64 ∷ (encode_upper (four b.address)
    ++ (flat_map (λ byte. 32 ∷ encode_upper (byte ∷ [])) b.bytes ++ 10 ∷ []))

-- a text whose lines have the firmware's bytes at their addresses
abbrev pub IsMemoryText : Firmware → List ℕ → Type 0
IsMemoryText firmware text =
    (blocks : List Block)
    × (list_all is_line blocks ≡ true)
    × (cells_of blocks ≡ cells_of firmware.blocks)
    × (text ≡ flat_map memory_line blocks)
