-- What code spells, as a function: for each word and each parcel the one instruction that it
-- spells, or none.

use Rattle.std.specs.Prelude.{◌≡◌, ◌↔◌, ℕ, Option, Some}
use Rattle.rv_isa.specs.declared.instruction.Inst.{Inst}

-- a reading that answers exactly what is spelled
pub record Reader (Spells : ℕ → Inst → Type 0) (StandsFor : ℕ → Inst → Type 0) : Type 0 where
  pub word : ℕ → Option Inst
  pub parcel : ℕ → Option Inst
  pub words : (w : ℕ) (i : Inst) → word w ≡ Some i ↔ Spells w i
  pub parcels : (p : ℕ) (i : Inst) → parcel p ≡ Some i ↔ StandsFor p i
