-- Numbers as bytes, the lowest first (ISA, 1.4; System V gABI, "Data Encoding").

use Rattle.std.specs.Prelude.{ℕ, zero, suc, ◌+◌, ◌*◌, ◌/◌, ◌%◌, List, [], ◌∷◌, replicate}

-- a number in `width` bytes, the lowest first, modulo their width
abbrev pub little_endian : (width number : ℕ) → List ℕ
little_endian zero n = []
little_endian (suc width) n = n % 256 ∷ little_endian width (n / 256)

-- the number of these bytes, of which the first is the lowest
abbrev pub number_in : List ℕ → ℕ
number_in [] = 0
number_in (b ∷ bytes) = b + 256 * number_in bytes

abbrev pub zeros : ℕ → List ℕ
zeros count = replicate count 0
