-- Intel HEX (Intel, "Hexadecimal Object File Format Specification", revision A).

use Rattle.std.specs.Prelude.{ℕ, ◌+◌, ◌-◌, ◌*◌, ◌/◌, ◌%◌, ◌==◌, ◌≡◌, nat_le, Bool, true, ◌&&◌, if◌then◌else◌, List, [], ◌∷◌, ◌++◌, length, flat_map, sum}
use Rattle.std.specs.List.{list_all}
use Rattle.hex.specs.Hex.{encode_upper}
use Rattle.rv_firmware.specs.Blocks.{Block, Cell, cells_from, cells_of}
use Rattle.rv_firmware.specs.FirmwareOf.{Firmware}

-- 00 data, 01 end of file, 04 extended linear address, 05 start linear address
pub record HexRecord : Type 0 where
  pub kind : ℕ
  pub offset : ℕ
  pub bytes : List ℕ

-- a record's bytes but for the last: their count, the offset, the kind, the contents
abbrev pub fields : HexRecord → List ℕ
fields r = length r.bytes ∷ r.offset / 256 ∷ r.offset % 256 ∷ r.kind ∷ r.bytes

-- what makes the sum of all bytes a multiple of 256
abbrev pub checksum : List ℕ → ℕ
checksum bytes = (256 - sum bytes % 256) % 256

abbrev pub record_line : HexRecord → List ℕ
record_line r = 58 ∷ (encode_upper (fields r ++ checksum (fields r) ∷ []) ++ 10 ∷ [])

-- an offset has two bytes, and contents do not pass it
abbrev pub is_record : HexRecord → Bool
is_record r = nat_le (r.offset + length r.bytes) 65536 && nat_le (length r.bytes) 255

-- two bytes, the high one first
abbrev pub pair : ℕ → List ℕ
pair n = n / 256 ∷ n % 256 ∷ []

abbrev pub data_record : Block → HexRecord
data_record b = record { kind = 0; offset = b.address % 65536; bytes = b.bytes }

-- what the offsets after it count from, in units of 65,536
abbrev pub base_record : ℕ → HexRecord
base_record upper = record { kind = 4; offset = 0; bytes = pair upper }

abbrev pub start_record : ℕ → HexRecord
start_record entry =
    record { kind = 5; offset = 0; bytes = pair (entry / 65536) ++ pair (entry % 65536) }

abbrev pub end_record : HexRecord
end_record = record { kind = 1; offset = 0; bytes = [] }

-- the records of a line, after one with another base or the same
abbrev pub base_records : ℕ → ℕ → List HexRecord
base_records upper next = if next == upper then [] else base_record next ∷ []

abbrev pub line_records : ℕ → Block → List HexRecord
line_records upper b = base_records upper (b.address / 65536) ++ data_record b ∷ []

-- the records of lines, after one with this base
unfoldable pub records_from : ℕ → List Block → List HexRecord
records_from upper [] = []
records_from upper (b ∷ bs) = line_records upper b ++ records_from (b.address / 65536) bs

-- the number of two bytes, the high one first
unfoldable pub number_of_pair : List ℕ → ℕ
number_of_pair (high ∷ low ∷ []) = 256 * high + low
number_of_pair _ = 0

-- the bytes that records put at addresses, where offsets count from a base
unfoldable pub loaded : ℕ → List HexRecord → List Cell
loaded base [] = []
loaded base (r ∷ rs) =
    if r.kind == 0 then cells_from (base + r.offset) r.bytes ++ loaded base rs
    else if r.kind == 4 then loaded (65536 * number_of_pair r.bytes) rs
    else loaded base rs

-- a text whose records put the firmware's bytes at their addresses, and then say where to start
abbrev pub IsIntelHex : Firmware → List ℕ → Type 0
IsIntelHex firmware text =
    (records : List HexRecord)
    × (list_all is_record records ≡ true)
    × (loaded 0 records ≡ cells_of firmware.blocks)
    × (text ≡ flat_map record_line (records ++ start_record firmware.entry ∷ end_record ∷ []))
