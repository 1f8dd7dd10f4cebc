-- Numbers of any size (DWARF 5, 7.6, "Variable Length Data"): seven bits a byte, the low ones
-- first; a byte from 128 on has more after it. What is read at the front of some bytes is the
-- number, and how many of the bytes it takes.

use Rattle.std.specs.Prelude.{ℕ, ◌≡◌, ◌+◌, ◌-◌, ◌*◌, nat_lt, ℤ, pos, ◌+ℤ◌, ◌-ℤ◌, ◌*ℤ◌, List, [], ◌∷◌, ◌++◌, length, Option, Some, None, option_map, if◌then◌else◌}

-- an unsigned number
unfoldable pub unsigned_at : List ℕ → Option (ℕ × ℕ)
unsigned_at [] = None
unsigned_at (b ∷ bs) =
    if nat_lt b 128 then Some (b, 1)
    else option_map (λ high. (b - 128 + 128 * high.0, 1 + high.1)) (unsigned_at bs)

-- a signed number: the seven bits of the last byte are in two's complement
unfoldable pub signed_at : List ℕ → Option (ℤ × ℕ)
signed_at [] = None
signed_at (b ∷ bs) =
    if nat_lt b 64 then Some (pos b, 1)
    else if nat_lt b 128 then Some (pos b -ℤ pos 128, 1)
    else option_map (λ high. (pos (b - 128) +ℤ pos 128 *ℤ high.0, 1 + high.1)) (signed_at bs)

-- the bytes read as this number, all of them, whatever follows
pub record IsUnsigned (bytes : List ℕ) (number : ℕ) : Type 0 where
  pub read : (rest : List ℕ) → unsigned_at (bytes ++ rest) ≡ Some (number, length bytes)

pub record IsSigned (bytes : List ℕ) (number : ℤ) : Type 0 where
  pub read : (rest : List ℕ) → signed_at (bytes ++ rest) ≡ Some (number, length bytes)
