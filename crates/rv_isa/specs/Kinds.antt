-- The kinds of relocations by their numbers, and the bytes that each changes
-- (RISC-V ELF psABI, the section "Relocations", its table of relocation types).

use Rattle.std.specs.Prelude.{ℕ, Bool, true, false}
use Rattle.rv_isa.specs.declared.kind.Kind.{Kind}
use Rattle.rv_isa.specs.declared.kind.Kind.TheVariants as kind

-- the psABI's numbers: the low half of a relocation's r_info
abbrev pub number_of : Kind → ℕ
number_of kind.None = 0
number_of kind.Abs32 = 1
number_of kind.Abs64 = 2
number_of kind.Branch = 16
number_of kind.Jal = 17
number_of kind.Call = 18
number_of kind.CallPlt = 19
number_of kind.PcrelHi20 = 23
number_of kind.PcrelLo12I = 24
number_of kind.PcrelLo12S = 25
number_of kind.Hi20 = 26
number_of kind.Lo12I = 27
number_of kind.Lo12S = 28
number_of kind.Add8 = 33
number_of kind.Add16 = 34
number_of kind.Add32 = 35
number_of kind.Add64 = 36
number_of kind.Sub8 = 37
number_of kind.Sub16 = 38
number_of kind.Sub32 = 39
number_of kind.Sub64 = 40
number_of kind.Align = 43
number_of kind.RvcBranch = 44
number_of kind.RvcJump = 45
number_of kind.Relax = 51
number_of kind.Sub6 = 52
number_of kind.Set6 = 53
number_of kind.Set8 = 54
number_of kind.Set16 = 55
number_of kind.Set32 = 56
number_of kind.Pcrel32 = 57

-- the bytes of the field, from the relocation's place on
abbrev pub width_of : Kind → ℕ
width_of kind.None = 0
width_of kind.Abs32 = 4
width_of kind.Abs64 = 8
width_of kind.Branch = 4
width_of kind.Jal = 4
width_of kind.Call = 8
width_of kind.CallPlt = 8
width_of kind.PcrelHi20 = 4
width_of kind.PcrelLo12I = 4
width_of kind.PcrelLo12S = 4
width_of kind.Hi20 = 4
width_of kind.Lo12I = 4
width_of kind.Lo12S = 4
width_of kind.Add8 = 1
width_of kind.Add16 = 2
width_of kind.Add32 = 4
width_of kind.Add64 = 8
width_of kind.Sub8 = 1
width_of kind.Sub16 = 2
width_of kind.Sub32 = 4
width_of kind.Sub64 = 8
width_of kind.Align = 0
width_of kind.RvcBranch = 2
width_of kind.RvcJump = 2
width_of kind.Relax = 0
width_of kind.Sub6 = 1
width_of kind.Set6 = 1
width_of kind.Set8 = 1
width_of kind.Set16 = 2
width_of kind.Set32 = 4
width_of kind.Pcrel32 = 4

-- the low part of a distance to an address: it counts from where the upper part stands
abbrev pub is_low_part : Kind → Bool
is_low_part kind.PcrelLo12I = true
is_low_part kind.PcrelLo12S = true
is_low_part _ = false
