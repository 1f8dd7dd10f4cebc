-- What follows from the definitions of Offsets, for all who cite them.

use Rattle.std.proofs.Common.{ℤ, pos, negsuc, arith}
use Rattle.std.specs.Prelude.{◌≤ℤ◌, ◌<ℤ◌}
use Rattle.std.proofs.lemmas.Int.{ints}
use Rattle.rv_isa.specs.Ranges.{IsBranchOffset}
use Rattle.rv_size_laws.specs.Offsets.{IsImmediate}

pub immediate : (z : ℤ) → IsBranchOffset z → IsImmediate 4096 z
immediate z h = record { even = h.2; low = h.0; high = above z h.1 }
  where
    above : (y : ℤ) → y ≤ℤ pos 4094 → y <ℤ pos 4096
    above (pos n) at = omega (arith, ints, at)
    above (negsuc n) at = omega (arith, ints, at)
