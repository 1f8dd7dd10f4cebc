-- S-records (Motorola, "M68000 Family Programmer's Reference Manual", appendix C).

use Rattle.std.specs.Prelude.{ℕ, ◌+◌, ◌-◌, ◌/◌, ◌%◌, ◌≡◌, true, List, [], ◌∷◌, ◌++◌, length, flat_map, sum}
use Rattle.std.specs.List.{list_all}
use Rattle.hex.specs.Hex.{encode_upper}
use Rattle.rv_firmware.specs.Blocks.{Block, cells_of, is_line}
use Rattle.rv_firmware.specs.FirmwareOf.{Firmware}

-- four bytes, the highest first
abbrev pub four : ℕ → List ℕ
four n = n / 16777216 ∷ n / 65536 % 256 ∷ n / 256 % 256 ∷ n % 256 ∷ []

-- what makes the sum of all bytes 255 less than a multiple of 256
abbrev pub complement : List ℕ → ℕ
complement bytes = 255 - sum bytes % 256

-- a record of a kind: the count of what follows it, and a last byte that checks the others
abbrev pub s_line : ℕ → List ℕ → List ℕ
s_line kind bytes =
    let counted = (length bytes + 1) ∷ bytes in
    83 ∷ kind ∷ (encode_upper (counted ++ complement counted ∷ []) ++ 10 ∷ [])

-- S0, the header without a name; S3, data at an address of four bytes; S7, where to start
abbrev pub header_line : List ℕ
header_line = s_line 48 (0 ∷ 0 ∷ [])

abbrev pub data_line : Block → List ℕ
data_line b = s_line 51 (four b.address ++ b.bytes)

abbrev pub start_line : ℕ → List ℕ
start_line entry = s_line 55 (four entry)

-- a text whose data records have the firmware's bytes at their addresses
abbrev pub AreSRecords : Firmware → List ℕ → Type 0
AreSRecords firmware text =
    (blocks : List Block)
    × (list_all is_line blocks ≡ true)
    × (cells_of blocks ≡ cells_of firmware.blocks)
    × (text ≡ header_line ++ (flat_map data_line blocks ++ start_line firmware.entry))
