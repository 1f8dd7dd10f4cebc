-- The names of registers (RISC-V ELF psABI, integer register convention; RISC-V Assembly
-- Programmer's Manual).

use Rattle.std.specs.Prelude.{◌≡◌, ℕ, ◌+◌, ◌/◌, ◌%◌, ◌<◌, ◌⊎◌, List, [], ◌∷◌, ◌++◌, Some, codes, slice_get, nat_lt, if◌then◌else◌}

-- the ABI names, that of x0 first
unfoldable pub abi_names : List (List ℕ)
abi_names =
    codes "zero" ∷ codes "ra" ∷ codes "sp" ∷ codes "gp" ∷ codes "tp" ∷ codes "t0" ∷ codes "t1" ∷
    codes "t2" ∷ codes "s0" ∷ codes "s1" ∷ codes "a0" ∷ codes "a1" ∷ codes "a2" ∷ codes "a3" ∷
    codes "a4" ∷ codes "a5" ∷ codes "a6" ∷ codes "a7" ∷ codes "s2" ∷ codes "s3" ∷ codes "s4" ∷
    codes "s5" ∷ codes "s6" ∷ codes "s7" ∷ codes "s8" ∷ codes "s9" ∷ codes "s10" ∷ codes "s11" ∷
    codes "t3" ∷ codes "t4" ∷ codes "t5" ∷ codes "t6" ∷ []

-- a number below 100 in decimal, with no zero in front
abbrev pub decimal : ℕ → List ℕ
decimal n = if nat_lt n 10 then (48 + n) ∷ [] else (48 + n / 10) ∷ (48 + n % 10) ∷ []

-- x0 to x31 by number, by ABI name, and x8 as fp
abbrev pub IsNameOf : List ℕ → ℕ → Type 0
IsNameOf name r =
    ((r < 32) × (name ≡ codes "x" ++ decimal r)) ⊎ (slice_get abi_names r ≡ Some name)
    ⊎ ((name ≡ codes "fp") × (r ≡ 8))
