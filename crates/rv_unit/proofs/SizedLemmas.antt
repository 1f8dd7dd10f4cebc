-- Sizes that a number shows, or as many as it can.

use Rattle.std.proofs.Common.{◌≡◌, ℕ, ◌+◌, ◌-◌, ◌^◌, ◌≤◌, Bool, true, false, nat_le, List, ◌++◌, refl, ap, arith}
use Rattle.std.proofs.lemmas.Bool.{leb-true, le-leb}
use Rattle.std.specs.Prelude.{min, not, ◌&&◌, ◌||◌}
use Rattle.rv_unit_laws.specs.Sections.{Section, is_nobits}
use Rattle.rv_expression_laws.specs.Codes.{faulty_if}
use Rattle.rv_unit_laws.specs.Faults.{stored_faults}

shown : (offset n : ℕ) → nat_le (offset + min n (2 ^ 64 - 1)) (2 ^ 28) ≡ nat_le (offset + n) (2 ^ 28)
shown offset n = by (nat_le (offset + n) (2 ^ 28)) refl
  where
    missed : (b : Bool) → nat_le (offset + n) (2 ^ 28) ≡ false → nat_le (offset + min n (2 ^ 64 - 1)) (2 ^ 28) ≡ b → b ≡ false
    missed false past is = refl
    missed true past is =
        absurd (let small : offset + min n (2 ^ 64 - 1) ≤ 2 ^ 28 = leb-true (offset + min n (2 ^ 64 - 1)) (2 ^ 28) is in
        let within : offset + n ≤ 2 ^ 28 = omega arith in
        let held : nat_le (offset + n) (2 ^ 28) ≡ true = le-leb (offset + n) (2 ^ 28) within in cc)

    by : (b : Bool) → nat_le (offset + n) (2 ^ 28) ≡ b → nat_le (offset + min n (2 ^ 64 - 1)) (2 ^ 28) ≡ b
    by true e = let within : offset + n ≤ 2 ^ 28 = leb-true (offset + n) (2 ^ 28) e in le-leb (offset + min n (2 ^ 64 - 1)) (2 ^ 28) (omega arith)
    by false e = missed (nat_le (offset + min n (2 ^ 64 - 1)) (2 ^ 28)) e refl

pub data_shown : (section : Section) (offset n : ℕ) → stored_faults section offset (min n (2 ^ 64 - 1)) ≡ stored_faults section offset n
data_shown section offset n = ap (λ b. faulty_if (section.executable || is_nobits section) 15 ++ faulty_if (not section.executable && not b) 17) (shown offset n)
