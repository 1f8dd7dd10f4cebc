-- The instruction at the front of bytes: RISC-V Unprivileged ISA 20191213, section 1.5 (instruction
-- lengths).

use Rattle.std.specs.Prelude.{◌≡◌, ◌≢◌, ℕ, ◌+◌, ◌*◌, ◌%◌, ◌^◌, ◌≤◌, List, length, slice_index, ◌⊎◌}
use Rattle.rv_isa.specs.declared.instruction.Inst.{Inst}
use Rattle.rv_isa_laws.specs.Word.{Spells}
use Rattle.rv_parcel.specs.Parcel.{StandsFor}

-- the number of the first two bytes and of the first four, the least byte first
abbrev pub front_parcel : List ℕ → ℕ
front_parcel bytes = slice_index bytes 0 + slice_index bytes 1 * 2 ^ 8

abbrev pub front_word : List ℕ → ℕ
front_word bytes = front_parcel bytes + slice_index bytes 2 * 2 ^ 16 + slice_index bytes 3 * 2 ^ 24

-- low two bits 11 begin a word of four bytes
pub record FrontWord (bytes : List ℕ) (i : Inst) : Type 0 where
  pub begins : slice_index bytes 0 % 4 ≡ 3
  pub room : 4 ≤ length bytes
  pub spells : Spells (front_word bytes) i

-- other bits a parcel of two
pub record FrontParcel (bytes : List ℕ) (i : Inst) : Type 0 where
  pub begins : slice_index bytes 0 % 4 ≢ 3
  pub room : 2 ≤ length bytes
  pub stands : StandsFor (front_parcel bytes) i

-- this instruction stands at the front of the bytes, and takes `count` of them
abbrev pub FrontSpells : List ℕ → Inst → ℕ → Type 0
FrontSpells bytes i count = (FrontWord bytes i × (count ≡ 4)) ⊎ (FrontParcel bytes i × (count ≡ 2))
