-- A number read digit by digit stays below a power of ten.

use Rattle.std.proofs.Common.{ℕ, ◌+◌, ◌*◌, ◌^◌, ◌<◌, ◌≤◌, arith}
use Rattle.std.proofs.Math.Nat.{pow-le-pow_right}
use Rattle.std.proofs.lemmas.Grind.{pow_more}

-- one digit more
pub digit_more : (n d i : ℕ) → n < 10 ^ i → d < 10 → 10 * n + d < 10 ^ (i + 1)
digit_more n d i below digit = omega (arith, below, digit, pow_more 10 i)

-- so many digits have a number below 2 ^ 64
pub few_digits : (n i : ℕ) → n < 10 ^ i → i ≤ 16 → n < 10 ^ 16
few_digits n i below few =
    let le : 10 ^ i ≤ 10 ^ 16 = pow-le-pow_right (omega arith) few in omega (arith, below, le)
