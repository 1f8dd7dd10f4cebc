-- What follows from the definitions of Filled, for all who cite them.

use Rattle.std.proofs.Common.{◌≡◌, true, refl, List, [], ◌∷◌, map}
use Rattle.rv_isa.specs.declared.instruction.Inst.{Inst}
use Rattle.rv_pseudo_laws.specs.Code.{Closed}
use Rattle.rv_pseudo_laws.specs.Filled.{are_closed}

pub all_closed : (xs : List Inst) → are_closed (map Closed xs) ≡ true
all_closed [] = refl
all_closed (x ∷ xs) = all_closed xs
