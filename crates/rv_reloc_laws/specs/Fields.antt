-- What each kind of relocation makes of its field (RISC-V ELF psABI, "Relocations", the column
-- "Field"; ISA, 2.3 and chapter 16 for the immediates). A field is a number: that of its bytes, the
-- lowest first.

use Rattle.std.specs.Prelude.{◌≡◌, ◌⊎◌, ℕ, ◌+◌, ◌-◌, ◌*◌, ◌/◌, ◌%◌, ◌^◌, ◌<◌, ℤ, pos, ◌+ℤ◌, ◌-ℤ◌, List, [], ◌∷◌, unsigned_abs}
use Rattle.std.specs.Int.{int_rem_euclid}
use Rattle.rv_isa.specs.declared.kind.Kind.{Kind}
use Rattle.rv_isa.specs.declared.kind.Kind.TheVariants as kind
use Rattle.rv_isa.specs.Kinds.{width_of}
use Rattle.rv_isa_laws.specs.Bytes.{little_endian, number_in}
use Rattle.rv_isa_laws.specs.Halves.{hi, lo}

-- a number with sign modulo 2 ^ bits
abbrev pub modulo : (bits : ℕ) → ℤ → ℕ
modulo bits z = unsigned_abs (int_rem_euclid z (pos (2 ^ bits)))

-- `count` bits of an immediate from its bit `low` on, which stand in the instruction from bit
-- `place` on
pub data ImmediateBits : Type 0 where
  bits : (low count place : ℕ) → ImmediateBits

-- the immediates of the formats, by their pieces from the lowest bit of the instruction on
abbrev pub i_type : List ImmediateBits
i_type = bits 0 12 20 ∷ []

abbrev pub s_type : List ImmediateBits
s_type = bits 0 5 7 ∷ bits 5 7 25 ∷ []

abbrev pub b_type : List ImmediateBits
b_type = bits 11 1 7 ∷ bits 1 4 8 ∷ bits 5 6 25 ∷ bits 12 1 31 ∷ []

-- of the upper 20 bits
abbrev pub u_type : List ImmediateBits
u_type = bits 0 20 12 ∷ []

abbrev pub j_type : List ImmediateBits
j_type = bits 12 8 12 ∷ bits 11 1 20 ∷ bits 1 10 21 ∷ bits 20 1 31 ∷ []

-- c.beqz and c.bnez
abbrev pub cb_type : List ImmediateBits
cb_type = bits 5 1 2 ∷ bits 1 2 3 ∷ bits 6 2 5 ∷ bits 3 2 10 ∷ bits 8 1 12 ∷ []

-- c.j
abbrev pub cj_type : List ImmediateBits
cj_type =
    bits 5 1 2 ∷ bits 1 3 3 ∷ bits 7 1 6 ∷ bits 6 1 7 ∷ bits 10 1 8 ∷ bits 8 2 9 ∷ bits 4 1 11 ∷
    bits 11 1 12 ∷ []

-- the low six bits of a byte
abbrev pub low_six : List ImmediateBits
low_six = bits 0 6 0 ∷ []

-- from bit `at` on: a number's bits at the pieces, and the field's own bits between them and above
abbrev pub with_pieces : (at : ℕ) → List ImmediateBits → (number field : ℕ) → ℕ
with_pieces at [] number field = field / 2 ^ at * 2 ^ at
with_pieces at (bits low count place ∷ pieces) number field =
    field / 2 ^ at % 2 ^ (place - at) * 2 ^ at
    + number / 2 ^ low % 2 ^ count * 2 ^ place
    + with_pieces (place + count) pieces number field

-- the field with its immediate set to a number
abbrev pub with_immediate : List ImmediateBits → (number field : ℕ) → ℕ
with_immediate pieces number field = with_pieces 0 pieces number field

-- the immediate that stands at these pieces
abbrev pub immediate_at : List ImmediateBits → (field : ℕ) → ℕ
immediate_at [] field = 0
immediate_at (bits low count place ∷ pieces) field =
    field / 2 ^ place % 2 ^ count * 2 ^ low + immediate_at pieces field

-- the field's other bits: zeros stand at the pieces
abbrev pub rest_of : List ImmediateBits → (field : ℕ) → ℕ
rest_of pieces field = with_immediate pieces 0 field

-- of two fields: the second has this immediate, and every other bit of the first
pub record IsSetTo (pieces : List ImmediateBits) (number old new : ℕ) : Type 0 where
  pub immediate : immediate_at pieces new ≡ number
  pub rest : rest_of pieces new ≡ rest_of pieces old

-- the law of a format whose immediate has `count` bits, of which the lowest are zeros up to a
-- multiple of `unit`
abbrev pub IsHeld : List ImmediateBits → (count unit : ℕ) → Type 0
IsHeld pieces count unit =
    (number field : ℕ) → number < 2 ^ count → number % unit ≡ 0
    → IsSetTo pieces number field (with_immediate pieces number field)

-- a word of four bytes and the word after it
abbrev pub pair : (first second : ℕ) → ℕ
pair first second = first + second * 2 ^ 32

-- `auipc` and the `jalr` after it: the upper half in the first, the lower in the second
abbrev pub with_halves : ℤ → (field : ℕ) → ℕ
with_halves v field =
    pair
    (with_immediate u_type (modulo 20 (hi v)) (field % 2 ^ 32))
    (with_immediate i_type (modulo 12 (lo v)) (field / 2 ^ 32))

-- the field after a value is written to it
abbrev pub written : Kind → (value : ℤ) (field : ℕ) → ℕ
written kind.None v field = field
written kind.Abs32 v field = modulo 32 v
written kind.Abs64 v field = modulo 64 v
written kind.Branch v field = with_immediate b_type (modulo 13 v) field
written kind.Jal v field = with_immediate j_type (modulo 21 v) field
written kind.Call v field = with_halves v field
written kind.CallPlt v field = with_halves v field
written kind.PcrelHi20 v field = with_immediate u_type (modulo 20 (hi v)) field
written kind.PcrelLo12I v field = with_immediate i_type (modulo 12 (lo v)) field
written kind.PcrelLo12S v field = with_immediate s_type (modulo 12 (lo v)) field
written kind.Hi20 v field = with_immediate u_type (modulo 20 (hi v)) field
written kind.Lo12I v field = with_immediate i_type (modulo 12 (lo v)) field
written kind.Lo12S v field = with_immediate s_type (modulo 12 (lo v)) field
written kind.Add8 v field = modulo 8 (pos field +ℤ v)
written kind.Add16 v field = modulo 16 (pos field +ℤ v)
written kind.Add32 v field = modulo 32 (pos field +ℤ v)
written kind.Add64 v field = modulo 64 (pos field +ℤ v)
written kind.Sub8 v field = modulo 8 (pos field -ℤ v)
written kind.Sub16 v field = modulo 16 (pos field -ℤ v)
written kind.Sub32 v field = modulo 32 (pos field -ℤ v)
written kind.Sub64 v field = modulo 64 (pos field -ℤ v)
written kind.Align v field = field
written kind.RvcBranch v field = with_immediate cb_type (modulo 9 v) field
written kind.RvcJump v field = with_immediate cj_type (modulo 12 v) field
written kind.Relax v field = field
written kind.Sub6 v field = with_immediate low_six (modulo 6 (pos field -ℤ v)) field
written kind.Set6 v field = with_immediate low_six (modulo 6 v) field
written kind.Set8 v field = modulo 8 v
written kind.Set16 v field = modulo 16 v
written kind.Set32 v field = modulo 32 v
written kind.Pcrel32 v field = modulo 32 v

-- the widths of fields
abbrev pub IsFieldWidth : ℕ → Type 0
IsFieldWidth n = (n ≡ 0) ⊎ (n ≡ 1) ⊎ (n ≡ 2) ⊎ (n ≡ 4) ⊎ (n ≡ 8)

-- the bytes of the field after a value is written to them
abbrev pub patched : Kind → (value : ℤ) (bytes : List ℕ) → List ℕ
patched k v bytes = little_endian (width_of k) (written k v (number_in bytes))
