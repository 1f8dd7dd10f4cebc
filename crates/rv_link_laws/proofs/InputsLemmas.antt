-- What follows from the definitions of Inputs, for all who cite them.

use Rattle.std.proofs.Common.{ℕ, ◌≤◌, List, [], ◌∷◌, arith}
use Rattle.rv_object_laws.specs.Object.{Relocation}
use Rattle.rv_link_laws.specs.Inputs.{raised}

pub raised_most : (rs : List Relocation) (a : ℕ) → a ≤ raised rs a
raised_most [] a = omega arith
raised_most (r ∷ rs) a = let rest = raised_most rs a in omega (arith, rest)
