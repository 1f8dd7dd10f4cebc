-- The text of an instruction: its mnemonic and its operands (RISC-V Assembly Programmer's Manual,
-- "Instruction Aliases" and "Pseudoinstructions" for the names; RISC-V Unprivileged ISA 20191213,
-- chapters 2, 5, 7 and 8).

use Rattle.std.specs.Prelude.{ℕ, suc, ℤ, pos, negsuc, ◌/◌, ◌%◌, Bool, true, false, not, ◌&&◌, ◌==◌, if◌then◌else◌, List, [], ◌∷◌, ◌++◌, flat_map, codes, decimal, slice_index_or}
use Rattle.std.specs.Fmt.{signed_decimal}
use Rattle.rv_isa.specs.declared.instruction.Fence.{Fence as FenceOperands}
use Rattle.rv_isa.specs.declared.instruction.Format.{Format}
use Rattle.rv_isa.specs.declared.instruction.Format.TheVariants.{Registers, Immediate, Shift, Upper, Load, Store, Branch, Jal, Jalr, LoadReserved, Atomic, Fence, Ecall, Ebreak}
use Rattle.rv_isa.specs.Mnemonics.{ordering}
use Rattle.rv_isa.specs.Operations.{register_name, immediate_name, shift_name, upper_name, load_name, store_name, branch_name, atomic_name}
use Rattle.rv_isa.specs.RegisterNames.{abi_names}
use Rattle.rv_isa_laws.specs.Arithmetic.{wrapped, sum_of}
use Rattle.rv_listing_laws.specs.declared.targets.Targets.{Targets}
use Rattle.rv_listing_laws.specs.declared.targets.Targets.TheVariants.{Addresses, Distances}
use Rattle.rv_listing_laws.specs.Numbers.{prefixed}

-- ---- operands

-- by its ABI name: x8 is s0
abbrev pub abi_register : ℕ → List ℕ
abi_register r = slice_index_or abi_names r []

-- (a0)
abbrev pub in_parentheses : ℕ → List ℕ
in_parentheses r = codes "(" ++ abi_register r ++ codes ")"

-- 8(sp)
abbrev pub based : ℤ → ℕ → List ℕ
based offset r = signed_decimal offset ++ in_parentheses r

-- the address to which a branch or a jump at this address leads (ISA, 2.5)
abbrev pub target_text : ℕ → ℤ → List ℕ
target_text address offset = prefixed (sum_of address (wrapped offset))

-- how far a target is from its instruction: .+4, .-4
abbrev pub distant : ℤ → List ℕ
distant (pos n) = codes ".+" ++ decimal n
distant (negsuc n) = codes ".-" ++ decimal (suc n)

-- the one or the other
abbrev pub shown_target : Targets → ℤ → List ℕ
shown_target (Addresses address) = target_text address
shown_target Distances = distant

-- a blank before the first operand, and a comma before each other
abbrev pub operands : List (List ℕ) → List ℕ
operands [] = []
operands (first ∷ others) = 32 ∷ first ++ flat_map (λ operand. 44 ∷ operand) others

-- ---- atomics (ISA, 8.1)

abbrev pub load_reserved_name : Bool → List ℕ
load_reserved_name false = codes "lr.w"
load_reserved_name true = codes "lr.d"

-- ---- fences (ISA, 2.7)

abbrev pub letter : ℕ → List ℕ → List ℕ
letter bit name = if bit % 2 == 1 then name else []

-- the letters of a set of accesses: i is 8, o is 4, r is 2, w is 1
abbrev pub accesses : ℕ → List ℕ
accesses s =
    letter (s / 8) (codes "i") ++ letter (s / 4) (codes "o") ++ letter (s / 2) (codes "r")
    ++ letter s (codes "w")

-- fence.tso: from reads and writes to reads and writes, with fm 8
abbrev pub is_tso : FenceOperands → Bool
is_tso x = x.fm == 8 && x.pred == 3 && x.succ == 3 && x.rs1 == 0 && x.rd == 0

-- fence with two sets, neither of them empty
abbrev pub is_between : FenceOperands → Bool
is_between x = x.fm == 0 && not (x.pred == 0) && not (x.succ == 0) && x.rs1 == 0 && x.rd == 0

-- a fence that no source spells is shown as what no instruction spells
abbrev pub fence_text : FenceOperands → List ℕ
fence_text x =
    if is_tso x then codes "fence.tso"
    else if is_between x
    then codes "fence" ++ operands (accesses x.pred ∷ accesses x.succ ∷ [])
    else codes "unknown"

-- ---- an instruction, by its format, with its target shown as `to` says

abbrev pub text_with : (ℤ → List ℕ) → Format → List ℕ
text_with to (Registers operation x) =
    register_name operation ++ operands (abi_register x.rd ∷ abi_register x.rs1 ∷
    abi_register x.rs2 ∷ [])
text_with to (Immediate operation x) =
    immediate_name operation
    ++ operands (abi_register x.rd ∷ abi_register x.rs1 ∷ signed_decimal x.immediate ∷ [])
text_with to (Shift operation x) =
    shift_name operation ++ operands (abi_register x.rd ∷ abi_register x.rs1 ∷ decimal x.amount ∷
    [])
text_with to (Upper operation x) =
    upper_name operation ++ operands (abi_register x.rd ∷ prefixed x.immediate ∷ [])
text_with to (Load operation x) =
    load_name operation ++ operands (abi_register x.rd ∷ based x.immediate x.rs1 ∷ [])
text_with to (Store operation x) =
    store_name operation ++ operands (abi_register x.rs2 ∷ based x.immediate x.rs1 ∷ [])
text_with to (Branch operation x) =
    branch_name operation ++ operands (abi_register x.rs1 ∷ abi_register x.rs2 ∷ to x.offset ∷ [])
text_with to (Jal x) = codes "jal" ++ operands (abi_register x.rd ∷ to x.offset ∷ [])
text_with to (Jalr x) =
    codes "jalr" ++ operands (abi_register x.rd ∷ based x.immediate x.rs1 ∷ [])
text_with to (LoadReserved double x) =
    load_reserved_name double ++ ordering x.acquire x.release
    ++ operands (abi_register x.rd ∷ in_parentheses x.rs1 ∷ [])
text_with to (Atomic operation double x) =
    atomic_name operation double ++ ordering x.acquire x.release
    ++ operands (abi_register x.rd ∷ abi_register x.rs2 ∷ in_parentheses x.rs1 ∷ [])
text_with to (Fence x) = fence_text x
text_with to Ecall = codes "ecall"
text_with to Ebreak = codes "ebreak"

-- with the address of the target, from its own
abbrev pub text_of : ℕ → Format → List ℕ
text_of address format = text_with (target_text address) format
