-- That no name has two definitions has one proof at most, so that a struct can keep it.

use Rattle.std.specs.Prelude.{ℕ, List, [], ◌∷◌}
use Rattle.std.specs.Coded.{Unit-prop}
use Rattle.std.proofs.Props.{props}
use Rattle.rv_map_laws.specs.Globals.{AreDistinct}

pub distinct_prop : (names : List (List ℕ)) → IsProp (AreDistinct names)
distinct_prop [] = Unit-prop
distinct_prop (name ∷ names) = hlevel (props, distinct_prop names)
