-- What follows from the definitions of Operations, for all who cite them.

use Rattle.std.proofs.Common.{◌≡◌, refl}
use Rattle.rv_isa.specs.declared.instruction.Inst.TheVariants as inst
use Rattle.rv_isa.specs.declared.instruction.Inst.{Inst}
use Rattle.rv_isa.specs.Operations.{format_of, instruction_of}

pub rebuilt : (i : Inst) → instruction_of (format_of i) ≡ i
rebuilt (inst.Lui x) = refl
rebuilt _ = refl
