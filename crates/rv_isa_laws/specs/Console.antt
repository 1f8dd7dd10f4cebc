-- The bytes of a console so far, and those after.

use Rattle.std.specs.Prelude.{◌≡◌, ℕ, ◌++◌, List}

-- bytes at the front of others
pub record IsFront (front whole : List ℕ) : Type 0 where
  pub rest : List ℕ
  pub joined : front ++ rest ≡ whole
