-- The instructions of a call.

use Rattle.std.specs.Prelude.{Bool, true, false, Option, Some, None}
use Rattle.rv_isa.specs.declared.instruction.Inst.{Inst}
use Rattle.rv_isa.specs.declared.instruction.Inst.TheVariants as isa

abbrev pub is_auipc : Inst → Bool
is_auipc (isa.Auipc x) = true
is_auipc _ = false

abbrev pub is_jalr : Inst → Bool
is_jalr (isa.Jalr x) = true
is_jalr _ = false

-- what a word spells, if anything, is one of certain instructions
abbrev pub spells_one : (Inst → Bool) → Option Inst → Bool
spells_one right None = false
spells_one right (Some i) = right i
