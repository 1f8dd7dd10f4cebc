-- Rows in the order of their ordinals.

use Rattle.std.specs.Prelude.{ℕ, ◌≤◌, ⊤, List, [], ◌∷◌}
use Rattle.rv_object_laws.specs.declared.row.Row.{Row}

-- no ordinal is below the one before it, nor the first below this
abbrev pub Rise : ℕ → List Row → Type 0
Rise low [] = ⊤
Rise low (r ∷ rs) = (low ≤ r.ordinal) × Rise r.ordinal rs
