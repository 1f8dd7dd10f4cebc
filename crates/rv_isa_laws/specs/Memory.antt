-- Memory as a program sees it: at each address a byte and its rights. Addresses count modulo 2 ^ 64
-- (ISA, 1.4).

use Rattle.std.specs.Prelude.{ℕ, zero, suc, ◌+◌, ◌*◌, ◌/◌, ◌%◌, ◌^◌, Bool, true, false, ◌&&◌, ◌||◌, ◌==◌, if◌then◌else◌, List, [], ◌∷◌}

-- what a program may do with a byte (gABI, segment flags PF_R, PF_W, PF_X)
pub data Right : Type 0 where
  Read : Right
  Write : Right
  Execute : Right

pub record Mem : Type 0 where
  pub byte : ℕ → ℕ
  pub has : ℕ → Right → Bool

-- all n bytes from a have the right
abbrev pub may : Mem → ℕ → ℕ → Right → Bool
may m a zero right = true
may m a (suc n) right = m.has (a % 2 ^ 64) right && may m (a + 1) n right

-- one of n bytes from a has the right
abbrev pub some_has : Mem → ℕ → ℕ → Right → Bool
some_has m a zero right = false
some_has m a (suc n) right = m.has (a % 2 ^ 64) right || some_has m (a + 1) n right

-- the n bytes from a
abbrev pub bytes_at : Mem → ℕ → ℕ → List ℕ
bytes_at m a zero = []
bytes_at m a (suc n) = m.byte (a % 2 ^ 64) ∷ bytes_at m (a + 1) n

-- the little-endian number of n bytes from a
abbrev pub number_at : Mem → ℕ → ℕ → ℕ
number_at m a zero = 0
number_at m a (suc n) = m.byte (a % 2 ^ 64) + 256 * number_at m (a + 1) n

-- one byte changed; rights never change
abbrev pub with_byte : Mem → ℕ → ℕ → Mem
with_byte m a b = record { byte = λ x. if x == a then b else m.byte x; has = m.has }

-- these bytes put from a on
abbrev pub with_bytes : Mem → ℕ → List ℕ → Mem
with_bytes m a [] = m
with_bytes m a (b ∷ bs) = with_bytes (with_byte m (a % 2 ^ 64) b) (a + 1) bs

-- the low n bytes of a number put from a on, the lowest first
abbrev pub with_number : Mem → ℕ → ℕ → ℕ → Mem
with_number m a zero v = m
with_number m a (suc n) v = with_number (with_byte m (a % 2 ^ 64) (v % 256)) (a + 1) n (v / 256)
