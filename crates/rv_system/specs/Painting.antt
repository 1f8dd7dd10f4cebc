-- A text with whole colours in it, whatever comes after.

use Rattle.std.specs.Prelude.{◌≡◌, ℕ, List, ◌++◌}
use Rattle.rv_system.specs.Unpainted.{unpainted}

pub record IsPainting (painted text : List ℕ) : Type 0 where
  pub before : (after : List ℕ) → unpainted (painted ++ after) ≡ text ++ unpainted after
