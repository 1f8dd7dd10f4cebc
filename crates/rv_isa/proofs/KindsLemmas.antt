-- What follows from the definitions of Kinds, for all who cite them.

use Rattle.std.proofs.Common.{◌≤◌, arith}
use Rattle.rv_isa.specs.declared.kind.Kind.TheVariants as kind
use Rattle.rv_isa.specs.declared.kind.Kind.{Kind}
use Rattle.rv_isa.specs.Kinds.{width_of}

pub width_low : (k : Kind) → width_of k ≤ 8
width_low kind.None = omega arith
width_low k = omega arith
