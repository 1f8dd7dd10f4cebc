-- Which values the field of each kind of relocation can hold (RISC-V ELF psABI, "Relocations"; ISA,
-- 2.3 and chapter 16 for the immediates).

use Rattle.std.specs.Prelude.{◌≡◌, ◌-◌, ◌^◌, ◌%◌, ℤ, pos, negsuc, ◌≤ℤ◌, unsigned_abs, Bool, true, false}
use Rattle.rv_isa.specs.declared.kind.Kind.{Kind}
use Rattle.rv_isa.specs.declared.kind.Kind.TheVariants as kind
use Rattle.rv_isa_laws.specs.Halves.{hi}
use Rattle.rv_fault.specs.declared.link_fault.LinkFault.{LinkFault}
use Rattle.rv_fault.specs.declared.link_fault.LinkFault.TheVariants.{Overflow, OddTarget}

abbrev pub IsBetween : (low high : ℤ) → ℤ → Type 0
IsBetween low high v = (low ≤ℤ v) × (v ≤ℤ high)

-- the upper half fits the 20 bits of `lui` and `auipc`
abbrev pub HasUpper : ℤ → Type 0
HasUpper v = IsBetween (negsuc (2 ^ 19 - 1)) (pos (2 ^ 19 - 1)) (hi v)

-- the table; of those that have no line the field takes every value, modulo its width
abbrev pub IsInRange : Kind → (value : ℤ) → Type 0
IsInRange kind.Abs32 v = IsBetween (negsuc (2 ^ 31 - 1)) (pos (2 ^ 32 - 1)) v
IsInRange kind.Branch v = IsBetween (negsuc 4095) (pos 4094) v
IsInRange kind.Jal v = IsBetween (negsuc 1048575) (pos 1048574) v
IsInRange kind.Call v = HasUpper v
IsInRange kind.CallPlt v = HasUpper v
IsInRange kind.PcrelHi20 v = HasUpper v
IsInRange kind.Hi20 v = HasUpper v
IsInRange kind.RvcBranch v = IsBetween (negsuc 255) (pos 254) v
IsInRange kind.RvcJump v = IsBetween (negsuc 2047) (pos 2046) v
IsInRange kind.Pcrel32 v = IsBetween (negsuc (2 ^ 31 - 1)) (pos (2 ^ 31 - 1)) v
IsInRange _ v = Unit {0}

-- whether the value is where a jump goes to, which is even
abbrev pub is_target : Kind → Bool
is_target kind.Branch = true
is_target kind.Jal = true
is_target kind.Call = true
is_target kind.CallPlt = true
is_target kind.RvcBranch = true
is_target kind.RvcJump = true
is_target _ = false

abbrev pub IsOdd : ℤ → Type 0
IsOdd v = unsigned_abs v % 2 ≡ 1

-- the field takes the value
pub record Takes (k : Kind) (v : ℤ) : Type 0 where
  pub range : IsInRange k v
  pub even : is_target k ≡ true → IsOdd v → ⊥

-- why it does not: out of range, and only in range odd; for no other reason
abbrev pub Refuses : Kind → ℤ → LinkFault → Type 0
Refuses k v Overflow = IsInRange k v → ⊥
Refuses k v OddTarget = IsInRange k v × (is_target k ≡ true) × IsOdd v
Refuses k v _ = ⊥
