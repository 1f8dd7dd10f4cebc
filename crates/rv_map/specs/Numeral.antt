-- The numbers in a map's text, read.

use Rattle.std.specs.Prelude.{ℕ, ◌^◌, Bool, not, ◌&&◌, ◌==◌, nat_lt, false, List, length, slice_index, Option, Some, None, if◌then◌else◌, ◌⊎◌, ◌≡◌}
use Rattle.std.specs.List.{list_all}
use Rattle.std.specs.Char.{digit_value}
use Rattle.std.specs.Fmt.{digit_glyph}
use Rattle.std.specs.Str.Parse.{digits_value}

-- the two bases of a map's numbers
abbrev pub IsBase : ℕ → Type 0
IsBase base = (base ≡ 10) ⊎ (base ≡ 16)

-- a digit of the base, in lower case
unfoldable pub is_digit : ℕ → ℕ → Bool
is_digit base byte = nat_lt (digit_value byte) base && byte == digit_glyph false (digit_value byte)

-- a byte or more, and no zero before others
abbrev pub begins_numeral : List ℕ → Bool
begins_numeral bytes =
    nat_lt 0 (length bytes) && not (nat_lt 1 (length bytes) && slice_index bytes 0 == 48)

-- digits of the base, one or more, without leading zeros
abbrev pub is_numeral : ℕ → List ℕ → Bool
is_numeral base bytes = begins_numeral bytes && list_all (is_digit base) bytes

-- the number below 2 ^ 64 that is written so
unfoldable pub number_of : ℕ → List ℕ → Option ℕ
number_of base bytes =
    if is_numeral base bytes && nat_lt (digits_value base bytes) (2 ^ 64)
    then Some (digits_value base bytes) else None
