-- What no step of a run changes (System V gABI, segment flags).

use Rattle.std.specs.Prelude.{◌≡◌, ℕ, false}
use Rattle.rv_isa_laws.specs.Memory.{Mem, Right, Write}

-- from one memory to another: no right, and no byte that may not be written
pub record Keeps (old new : Mem) : Type 0 where
  pub rights : (x : ℕ) (right : Right) → new.has x right ≡ old.has x right
  pub bytes : (x : ℕ) → old.has x Write ≡ false → new.byte x ≡ old.byte x
