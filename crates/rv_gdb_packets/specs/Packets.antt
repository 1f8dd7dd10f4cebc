-- Packets of GDB's remote protocol (GDB manual, "Remote Protocol", "Overview").

use Rattle.std.specs.Prelude.{ℕ, ◌+◌, ◌-◌, ◌*◌, ◌/◌, ◌%◌, ◌==◌, ◌||◌, nat_le, Bool, false, ◌&&◌, if◌then◌else◌, bit_xor, List, [], ◌∷◌, ◌++◌, flat_map, Option, Some, None}
use Rattle.std.specs.Fmt.{digit_glyph}

-- the most bytes that the content of a packet has
abbrev pub content_limit : ℕ
content_limit = 16384

-- # $ } and * have a meaning of their own in a packet
abbrev pub is_special : ℕ → Bool
is_special b = (b == 35) || (b == 36) || (b == 125) || (b == 42)

-- such a byte is sent as } and the byte exclusive or 20h
abbrev pub escaped_byte : ℕ → List ℕ
escaped_byte b = if is_special b then 125 ∷ bit_xor b 32 ∷ [] else b ∷ []

abbrev pub escaped : List ℕ → List ℕ
escaped bytes = flat_map escaped_byte bytes

-- a sum and bytes modulo 256
abbrev pub checksum : ℕ → List ℕ → ℕ
checksum sum [] = sum
checksum sum (b ∷ bs) = checksum ((sum + b) % 256) bs

-- # and two hexadecimal digits of the sum
abbrev pub ending : ℕ → List ℕ
ending sum = 35 ∷ digit_glyph false (sum / 16) ∷ digit_glyph false (sum % 16) ∷ []

-- $, the content, and the end with the sum of what stands between $ and #
abbrev pub packet : List ℕ → List ℕ
packet content = (36 ∷ escaped content) ++ ending (checksum 0 (escaped content))

-- the value of a hexadecimal digit, of either case
abbrev pub digit_value : ℕ → Option ℕ
digit_value b =
    if nat_le 48 b && nat_le b 57 then Some (b - 48)
    else if nat_le 97 b && nat_le b 102 then Some (b - 97 + 10)
    else if nat_le 65 b && nat_le b 70 then Some (b - 65 + 10)
    else None

abbrev pub number_of_digits : Option ℕ → Option ℕ → Option ℕ
number_of_digits None low = None
number_of_digits (Some h) None = None
number_of_digits (Some h) (Some l) = Some (16 * h + l)

-- the byte that two digits spell
abbrev pub byte_spelled : ℕ → ℕ → Option ℕ
byte_spelled high low = number_of_digits (digit_value high) (digit_value low)
