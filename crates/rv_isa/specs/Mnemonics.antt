-- The names of instructions (RISC-V Unprivileged ISA 20191213, chapter 24).

use Rattle.std.specs.Prelude.{ℕ, Bool, true, false, List, [], codes}
use Rattle.rv_isa.specs.declared.instruction.Inst.{Inst}
use Rattle.rv_isa.specs.declared.instruction.Format.{Format}
use Rattle.rv_isa.specs.declared.instruction.Format.TheVariants.{Registers, Immediate, Shift, Upper, Load, Store, Branch, Jal, Jalr, LoadReserved, Atomic, Fence, Ecall, Ebreak}
use Rattle.rv_isa.specs.Operations.{format_of, register_name, immediate_name, shift_name, upper_name, load_name, store_name, branch_name, atomic_name}

abbrev pub name_of : Format → List ℕ
name_of (Registers operation x) = register_name operation
name_of (Immediate operation x) = immediate_name operation
name_of (Shift operation x) = shift_name operation
name_of (Upper operation x) = upper_name operation
name_of (Load operation x) = load_name operation
name_of (Store operation x) = store_name operation
name_of (Branch operation x) = branch_name operation
name_of (Jal x) = codes "jal"
name_of (Jalr x) = codes "jalr"
name_of (LoadReserved false x) = codes "lr.w"
name_of (LoadReserved true x) = codes "lr.d"
name_of (Atomic operation double x) = atomic_name operation double
name_of (Fence x) = codes "fence"
name_of Ecall = codes "ecall"
name_of Ebreak = codes "ebreak"

-- an instruction's mnemonic; the ordering bits of an atomic are no part of it
abbrev pub mnemonic_text : Inst → List ℕ
mnemonic_text i = name_of (format_of i)

-- the end of an atomic's mnemonic that its bits aq and rl have (ISA, 8.1)
abbrev pub ordering : Bool → Bool → List ℕ
ordering false false = []
ordering true false = codes ".aq"
ordering false true = codes ".rl"
ordering true true = codes ".aqrl"
