-- `li`: the instructions that put a number into a register (RISC-V Assembly Programmer's Manual,
-- "Load Immediate"): twelve bits by `addi`, thirty-two by `lui` and `addiw`, and of more bits first
-- those above the low twelve by `li` again, without the zero bits that they end with.

use Rattle.std.specs.Prelude.{ℕ, zero, suc, ◌+◌, ◌-◌, ◌*◌, ◌%◌, ◌≤◌, ◌^◌, ℤ, pos, negsuc, Bool, ◌&&◌, int_lt, int_le, unsigned_abs, if◌then◌else◌, List, [], ◌∷◌, ◌++◌}
use Rattle.std.specs.Ordering.{int_eq}
use Rattle.std.specs.Int.{w64, trailing_zeros}
use Rattle.rv_isa.specs.declared.instruction.Inst.{Inst}
use Rattle.rv_isa.specs.declared.instruction.Inst.TheVariants.{Lui, Addi, Addiw, Slli}
use Rattle.rv_isa_laws.specs.Arithmetic.{wrapped, floor}
use Rattle.rv_isa_laws.specs.Halves.{hi, lo}

-- ---- the instructions that it takes

abbrev pub lui : ℕ → ℕ → Inst
lui rd upper = Lui (record { immediate = upper; rd = rd })

abbrev pub addi : ℕ → ℕ → ℤ → Inst
addi rd rs1 k = Addi (record { immediate = k; rd = rd; rs1 = rs1 })

abbrev pub addiw : ℕ → ℕ → ℤ → Inst
addiw rd rs1 k = Addiw (record { immediate = k; rd = rd; rs1 = rs1 })

abbrev pub slli : ℕ → ℕ → ℕ → Inst
slli rd rs1 amount = Slli (record { rd = rd; rs1 = rs1; amount = amount })

-- ---- numbers

-- whether a number has this many bits in two's complement
abbrev pub is_signed : ℕ → ℤ → Bool
is_signed bits v = int_le (negsuc (2 ^ (bits - 1) - 1)) v && int_lt v (pos (2 ^ (bits - 1)))

-- the upper half in the 20 bits of `lui`
abbrev pub upper_20 : ℤ → ℕ
upper_20 v = wrapped (hi v) % 2 ^ 20

-- how many zero bits the upper half ends with
abbrev pub zeros : ℤ → ℕ
zeros v = trailing_zeros w64 (unsigned_abs (hi v))

-- the upper half without them
abbrev pub above : ℤ → ℤ
above v = floor (hi v) (2 ^ zeros v)

-- ---- the sequence

-- an addition, unless it adds 0
abbrev pub unless_zero : ℤ → Inst → List Inst
unless_zero k i = if int_eq k (pos 0) then [] else i ∷ []

-- of at most 32 bits
abbrev pub li_short : ℕ → ℤ → List Inst
li_short rd v =
    if is_signed 12 v then addi rd 0 v ∷ []
    else lui rd (upper_20 v) ∷ unless_zero (lo v) (addiw rd rd (lo v))

-- after the bits above the low twelve, shifted into their place
abbrev pub then_low : ℕ → ℤ → List Inst → List Inst
then_low rd v before = before ++ slli rd rd (12 + zeros v) ∷ unless_zero (lo v) (addi rd rd (lo v))

-- where at most `steps` numbers of more than 32 bits come on the way
abbrev pub li_in : ℕ → ℕ → ℤ → List Inst
li_in zero rd v = li_short rd v
li_in (suc steps) rd v =
    if is_signed 32 v then li_short rd v else then_low rd v (li_in steps rd (above v))

-- of 64 bits: each step leaves 12 bits fewer, so three come to 32 bits
abbrev pub li : ℕ → ℤ → List Inst
li rd v = li_in 3 rd v

-- ---- that three steps are enough

-- the least and the greatest number that so many steps bring to 32 bits
abbrev pub reach : ℕ → ℕ
reach zero = 2 ^ 27
reach (suc steps) = 2 ^ 12 * reach steps

abbrev pub IsInReach : ℕ → ℤ → Type 0
IsInReach steps v = (unsigned_abs v) ≤ reach steps
