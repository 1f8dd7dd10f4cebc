-- The rights and the widths that a memory is asked for.

use Rattle.std.specs.Prelude.{◌≡◌, ℕ, true, ◌⊎◌}
use Rattle.rv_memory.specs.declared.memory.Right.{Right}
use Rattle.rv_memory.specs.declared.memory.Right.TheVariants.{Read, Write, Execute}
use Rattle.rv_isa_laws.specs.Memory as laws

-- the right of the definitions that the code's right is
abbrev pub right_of : Right → laws.Right
right_of Read = laws.Read
right_of Write = laws.Write
right_of Execute = laws.Execute

-- the flag of a right: PF_X, PF_W or PF_R (gABI, segment flags)
abbrev pub flag_of : Right → ℕ
flag_of Execute = 1
flag_of Write = 2
flag_of Read = 4

-- the widths of an access, in bytes (ISA, 2.6)
abbrev pub IsWidth : ℕ → Type 0
IsWidth n = (n ≡ 1) ⊎ ((n ≡ 2) ⊎ ((n ≡ 4) ⊎ (n ≡ 8)))

-- all n bytes from a may be read, or all may be executed
abbrev pub MayLoad : laws.Mem → ℕ → ℕ → Type 0
MayLoad m a n = (laws.may m a n laws.Read ≡ true) ⊎ (laws.may m a n laws.Execute ≡ true)

-- the rights by which bytes are loaded
abbrev pub IsToLoad : Right → Type 0
IsToLoad Read = Unit {0}
IsToLoad Execute = Unit {0}
IsToLoad Write = ⊥
