-- The value of each kind of relocation (RISC-V ELF psABI, "Relocations", the column "Calculation").
-- S is the symbol's value, A the addend, P the address of the relocation's place. A PCREL_LO12 has
-- those of the PCREL_HI20 that it is paired with.

use Rattle.std.specs.Prelude.{ℕ, ℤ, pos, ◌+ℤ◌, ◌-ℤ◌}
use Rattle.std.specs.Int.{w64, int_wrap}
use Rattle.rv_isa.specs.declared.kind.Kind.{Kind}
use Rattle.rv_isa.specs.declared.kind.Kind.TheVariants as kind

-- S + A
abbrev pub absolute : (s : ℕ) (a : ℤ) → ℤ
absolute s a = pos s +ℤ a

-- S + A - P
abbrev pub relative : (s : ℕ) (a : ℤ) (p : ℕ) → ℤ
relative s a p = absolute s a -ℤ pos p

-- the table
abbrev pub calculation : Kind → (s : ℕ) (a : ℤ) (p : ℕ) → ℤ
calculation kind.None s a p = pos 0
calculation kind.Abs32 s a p = absolute s a
calculation kind.Abs64 s a p = absolute s a
calculation kind.Branch s a p = relative s a p
calculation kind.Jal s a p = relative s a p
calculation kind.Call s a p = relative s a p
calculation kind.CallPlt s a p = relative s a p
calculation kind.PcrelHi20 s a p = relative s a p
calculation kind.PcrelLo12I s a p = relative s a p
calculation kind.PcrelLo12S s a p = relative s a p
calculation kind.Hi20 s a p = absolute s a
calculation kind.Lo12I s a p = absolute s a
calculation kind.Lo12S s a p = absolute s a
calculation kind.Add8 s a p = absolute s a
calculation kind.Add16 s a p = absolute s a
calculation kind.Add32 s a p = absolute s a
calculation kind.Add64 s a p = absolute s a
calculation kind.Sub8 s a p = absolute s a
calculation kind.Sub16 s a p = absolute s a
calculation kind.Sub32 s a p = absolute s a
calculation kind.Sub64 s a p = absolute s a
calculation kind.Align s a p = pos 0
calculation kind.RvcBranch s a p = relative s a p
calculation kind.RvcJump s a p = relative s a p
calculation kind.Relax s a p = pos 0
calculation kind.Sub6 s a p = absolute s a
calculation kind.Set6 s a p = absolute s a
calculation kind.Set8 s a p = absolute s a
calculation kind.Set16 s a p = absolute s a
calculation kind.Set32 s a p = absolute s a
calculation kind.Pcrel32 s a p = relative s a p

-- the value: modulo 2 ^ 64, taken as signed
abbrev pub value_of : Kind → (s : ℕ) (a : ℤ) (p : ℕ) → ℤ
value_of k s a p = int_wrap w64 (calculation k s a p)
