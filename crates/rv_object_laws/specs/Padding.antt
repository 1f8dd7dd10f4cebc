-- Padding in code: instructions without effect (RISC-V ELF psABI, "Linker Relaxation",
-- R_RISCV_ALIGN; Unprivileged ISA, "NOP Instruction" and "C.NOP").

use Rattle.std.specs.Prelude.{ℕ, zero, suc, ◌+◌, ◌/◌, ◌%◌, nat_le, List, [], ◌∷◌, ◌++◌, if◌then◌else◌}

-- instructions without effect: `addi zero, zero, 0` of four bytes, and `c.nop` where two are left
abbrev pub four_each : ℕ → List ℕ
four_each zero = []
four_each (suc n) = 0x13 ∷ 0 ∷ 0 ∷ 0 ∷ four_each n

abbrev pub no_operations : ℕ → List ℕ
no_operations bytes = four_each (bytes / 4) ++ (if nat_le 2 (bytes % 4) then 0x01 ∷ 0 ∷ [] else [])

-- how many these are
abbrev pub operations_in : ℕ → ℕ
operations_in bytes = bytes / 4 + bytes % 4 / 2
