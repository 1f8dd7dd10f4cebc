-- What instructions are for (ISA, chapters 2, 7 and 8).

use Rattle.std.specs.Prelude.{ℕ, ◌+◌, ◌-◌, ◌^◌, min, List, [], ◌∷◌, codes}
use Rattle.rv_isa.specs.declared.instruction.Format.{Format}
use Rattle.rv_isa.specs.declared.instruction.Format.TheVariants as formats
use Rattle.rv_counts.specs.declared.kinds.InstructionKind.{InstructionKind}
use Rattle.rv_counts.specs.declared.kinds.InstructionKind.TheVariants.{Arithmetic, Load, Store, Atomic, Branch, Jump, Other}
use Rattle.rv_counts.specs.declared.kinds.Kinds.{Kinds}

abbrev pub instruction_kind : Format → InstructionKind
instruction_kind (formats.Registers operation x) = Arithmetic
instruction_kind (formats.Immediate operation x) = Arithmetic
instruction_kind (formats.Shift operation x) = Arithmetic
instruction_kind (formats.Upper operation x) = Arithmetic
instruction_kind (formats.Load operation x) = Load
instruction_kind (formats.Store operation x) = Store
instruction_kind (formats.Branch operation x) = Branch
instruction_kind (formats.Jal x) = Jump
instruction_kind (formats.Jalr x) = Jump
instruction_kind (formats.LoadReserved double x) = Atomic
instruction_kind (formats.Atomic operation double x) = Atomic
instruction_kind (formats.Fence x) = Other
instruction_kind formats.Ecall = Other
instruction_kind formats.Ebreak = Other

-- sums stay at 2 ^ 64 - 1 where they would be more
abbrev pub more : ℕ → ℕ → ℕ
more sum added = min (sum + added) (2 ^ 64 - 1)

abbrev pub no_kinds : Kinds
no_kinds =
    record { arithmetic = 0; load = 0; store = 0; atomic = 0; branch = 0; jump = 0; other = 0 }

abbrev pub with_kind : Kinds → InstructionKind → Kinds
with_kind k Arithmetic = record k { arithmetic = more k.arithmetic 1 }
with_kind k Load = record k { load = more k.load 1 }
with_kind k Store = record k { store = more k.store 1 }
with_kind k Atomic = record k { atomic = more k.atomic 1 }
with_kind k Branch = record k { branch = more k.branch 1 }
with_kind k Jump = record k { jump = more k.jump 1 }
with_kind k Other = record k { other = more k.other 1 }

-- in the order of texts
abbrev pub named_kinds : Kinds → List (List ℕ × ℕ)
named_kinds k =
    (codes "arithmetic", k.arithmetic)
    ∷ (codes "load", k.load)
    ∷ (codes "store", k.store)
    ∷ (codes "atomic", k.atomic)
    ∷ (codes "branch", k.branch)
    ∷ (codes "jump", k.jump)
    ∷ (codes "other", k.other)
    ∷ []
