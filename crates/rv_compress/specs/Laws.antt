-- What holds of parcels: RISC-V Unprivileged ISA 20191213, chapter 16.

use Rattle.std.specs.Prelude.{◌≡◌, ℕ, Option, Some, ◌↔◌}
use Rattle.rv_isa.specs.declared.instruction.Inst.{Inst}
use Rattle.rv_isa.specs.Ranges.{IsValid}
use Rattle.rv_parcel.specs.Parcel.{StandsFor}

-- some function reads parcels exactly
abbrev pub HasReader : Type 0
HasReader = (read : ℕ → Option Inst) × ((p : ℕ) (i : Inst) → read p ≡ Some i ↔ StandsFor p i)

-- what a parcel stands for has operands in their ranges
abbrev pub StandsForValid : Type 0
StandsForValid = (p : ℕ) (i : Inst) → StandsFor p i → IsValid i
