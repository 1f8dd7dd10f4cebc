-- An instruction with another operand: what a relocated value makes of it, by its format (ISA, 2.3;
-- RISC-V ELF psABI, "Relocations").

use Rattle.std.specs.Prelude.{ℤ}
use Rattle.rv_isa.specs.declared.instruction.BType.{BType}
use Rattle.rv_isa.specs.declared.instruction.IType.{IType}
use Rattle.rv_isa.specs.declared.instruction.JType.{JType}
use Rattle.rv_isa.specs.declared.instruction.SType.{SType}
use Rattle.rv_isa.specs.declared.instruction.UType.{UType}
use Rattle.rv_isa.specs.declared.instruction.Inst.{Inst}
use Rattle.rv_isa.specs.declared.instruction.Inst.TheVariants as inst
use Rattle.rv_isa.specs.declared.instruction.Format.{Format}
use Rattle.rv_isa.specs.declared.instruction.Format.TheVariants.{Immediate, Upper, Load, Store, Branch, Jal, Jalr}
use Rattle.rv_isa.specs.Operations.{format_of, of_immediate, of_upper, of_load, of_store, of_branch}
use Rattle.rv_isa_laws.specs.Halves.{hi, lo}
use Rattle.rv_reloc_laws.specs.Fields.{modulo}

-- operands with another immediate: a branch's and a jump's offset, the lower half, the upper half
abbrev pub branch_to : BType → ℤ → BType
branch_to x v = record { offset = v; rs1 = x.rs1; rs2 = x.rs2 }

abbrev pub jump_to : JType → ℤ → JType
jump_to x v = record { offset = v; rd = x.rd }

abbrev pub immediate_of : IType → ℤ → IType
immediate_of x v = record { immediate = lo v; rd = x.rd; rs1 = x.rs1 }

abbrev pub store_of : SType → ℤ → SType
store_of x v = record { immediate = lo v; rs1 = x.rs1; rs2 = x.rs2 }

abbrev pub upper_of : UType → ℤ → UType
upper_of x v = record { immediate = modulo 20 (hi v); rd = x.rd }

-- of an instruction of a format; one without such an operand stays as it is
abbrev pub format_with : Format → ℤ → Inst → Inst
format_with (Immediate operation x) v i = of_immediate operation (immediate_of x v)
format_with (Upper operation x) v i = of_upper operation (upper_of x v)
format_with (Load operation x) v i = of_load operation (immediate_of x v)
format_with (Store operation x) v i = of_store operation (store_of x v)
format_with (Branch operation x) v i = of_branch operation (branch_to x v)
format_with (Jal x) v i = inst.Jal (jump_to x v)
format_with (Jalr x) v i = inst.Jalr (immediate_of x v)
format_with _ v i = i

-- an instruction that goes to, or takes a half of, a value
abbrev pub with_value : ℤ → Inst → Inst
with_value v i = format_with (format_of i) v i
