-- Why no file is made, or memory has run out.

use Rattle.std.specs.Prelude.{◌≡◌, ◌⊎◌, Option, None}
use Rattle.rv_debug_sections.specs.declared.fault.CarryFault.{CarryFault}
use Rattle.rv_debug_sections.specs.declared.fault.CarryFault.TheVariants as faults

-- the fault is not of memory only where there is no such value
abbrev pub HasNone : {X : Type 0} → Option X → CarryFault → Type 0
HasNone x fault = (fault ≡ faults.OutOfMemory) ⊎ (x ≡ None)
