-- A dump: the bytes of a file in hexadecimal, sixteen a line.

use Rattle.std.specs.Prelude.{ℕ, zero, suc, List, [], ◌∷◌, ◌++◌, take, codes}
use Rattle.hex.specs.Hex.{encode_lower}
use Rattle.rv_map_laws.specs.Text.{padded}

-- the offset in eight digits or more, and the bytes in two each
abbrev pub dump_line : ℕ → List ℕ → List ℕ
dump_line offset bytes = padded 8 offset ++ codes ": " ++ encode_lower bytes ++ 10 ∷ []

-- the lines of bytes from an offset on; the first bytes, `inside` of them, stand on the line before
unfoldable pub dump_lines : (inside offset : ℕ) → List ℕ → List ℕ
dump_lines inside offset [] = []
dump_lines (suc inside) offset (b ∷ bytes) = dump_lines inside (suc offset) bytes
dump_lines zero offset (b ∷ bytes) =
    dump_line offset (take 16 (b ∷ bytes)) ++ dump_lines 15 (suc offset) bytes

abbrev pub dump_of : List ℕ → List ℕ
dump_of bytes = dump_lines 0 0 bytes
