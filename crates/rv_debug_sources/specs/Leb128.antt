-- Numbers of any size as operands of `.byte` (DWARF 5, 7.6, "Variable Length Data"): seven seven_bits a
-- byte, the low ones first; a byte with more behind it has 128 added. Ten bytes hold 64 seven_bits.

use Rattle.std.specs.Prelude.{ℕ, zero, suc, ◌+◌, ◌-◌, ◌/◌, ◌%◌, nat_lt, Bool, true, false, List, [], ◌∷◌, ◌++◌, if◌then◌else◌}

abbrev pub digit : ℕ → ℕ
digit d = if nat_lt d 10 then 48 + d else 87 + d

-- a byte, as `0xa5`
abbrev pub byte_text : ℕ → List ℕ
byte_text b = 48 ∷ 120 ∷ digit (b / 16) ∷ digit (b % 16) ∷ []

-- a byte with a comma behind it
abbrev pub part_text : ℕ → List ℕ
part_text b = byte_text b ++ 44 ∷ []

-- so many bytes at most
unfoldable pub unsigned_text : (most : ℕ) → ℕ → List ℕ
unsigned_text zero n = []
unsigned_text (suc most) n =
    if nat_lt n 128 then byte_text n
    else part_text (n % 128 + 128) ++ unsigned_text most (n / 128)

-- seven seven_bits of a size, or of the number that much below -1
abbrev pub seven_bits : (negative : Bool) → ℕ → ℕ
seven_bits false size = size
seven_bits true size = 127 - size

-- a signed number: the last byte's seven seven_bits are in two's complement
unfoldable pub signed_text : (most : ℕ) → (negative : Bool) → ℕ → List ℕ
signed_text zero negative size = []
signed_text (suc most) negative size =
    if nat_lt size 64 then byte_text (seven_bits negative size)
    else part_text (seven_bits negative (size % 128) + 128)
    ++ signed_text most negative (size / 128)
