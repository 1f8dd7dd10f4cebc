-- The sizes of jumps: two, four or eight bytes.

use Rattle.std.proofs.Common.{◌≡◌, ◌⊎◌, ℕ, ◌-◌, ◌*◌, ◌/◌, ◌%◌, ◌≤◌, ◌<◌, arith}
use Rattle.rv_size_laws.specs.Offsets.{GrowsEvenly}

abbrev pub IsJumpSize : ℕ → Type 0
IsJumpSize n = (n ≡ 8) ⊎ ((n ≡ 4) ⊎ (n ≡ 2))

pub jump_even : (n : ℕ) → IsJumpSize n → n % 2 ≡ 0
jump_even n size = grind arith

pub jump_grows : (a b : ℕ) → IsJumpSize a → IsJumpSize b → a ≤ b → GrowsEvenly a b
jump_grows a b x y le = let p : a % 2 ≡ 0 = jump_even a x in let q : b % 2 ≡ 0 = jump_even b y in ((b - a) / 2, omega arith)

pub jump_most : (n : ℕ) → IsJumpSize n → n ≤ 8
jump_most n size = grind arith

-- a quarter: 0, 1 or 2
pub quarter_grows : (a b : ℕ) → IsJumpSize a → IsJumpSize b → a < b → a / 4 < b / 4
quarter_grows a b x y lt = grind arith

pub quarter_most : (n : ℕ) → IsJumpSize n → n / 4 ≤ 2
quarter_most n size = grind arith

pub jump_between : (size other : ℕ) → IsJumpSize size → IsJumpSize other → size ≤ other → other < 2 * size → other ≡ size
jump_between size other x y le lt = grind arith
