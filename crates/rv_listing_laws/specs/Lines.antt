-- The lines of code: the instructions that bytes spell, each with its address (RISC-V Unprivileged
-- ISA 20191213, section 1.5).

use Rattle.std.specs.Prelude.{ℕ, zero, suc, ◌-◌, ◌%◌, ◌==◌, nat_le, if◌then◌else◌, List, [], ◌∷◌, ◌++◌, length, slice_index, codes, Option, Some, None, option_map}
use Rattle.rv_isa.specs.declared.instruction.Inst.{Inst}
use Rattle.rv_isa.specs.Operations.{format_of}
use Rattle.rv_isa_laws.specs.Reader.{Reader}
use Rattle.rv_isa_laws.specs.Word.{Spells}
use Rattle.rv_parcel.specs.Parcel.{StandsFor}
use Rattle.rv_parcel.specs.Front.{front_parcel, front_word}
use Rattle.rv_map_laws.specs.Text.{hexadecimal}
use Rattle.rv_listing_laws.specs.Instruction.{text_of}

-- what is read, with its length, where the bytes are enough
abbrev pub read_whole : ℕ → List ℕ → Option Inst → Option (Inst × ℕ)
read_whole count bytes found =
    if nat_le count (length bytes) then option_map (λ i. (i, count)) found else None

-- the instruction at the front of bytes and its length: the low bits 11 begin a word, others a
-- parcel
abbrev pub front : Reader Spells StandsFor → List ℕ → Option (Inst × ℕ)
front reader bytes =
    if slice_index bytes 0 % 4 == 3
    then read_whole 4 bytes (reader.word (front_word bytes))
    else read_whole 2 bytes (reader.parcel (front_parcel bytes))

-- what a line shows, and how many bytes it stands for: 2 where they spell nothing
abbrev pub shown : ℕ → Option (Inst × ℕ) → List ℕ
shown address None = codes "unknown"
shown address (Some (i, count)) = text_of address (format_of i)

abbrev pub length_read : Option (Inst × ℕ) → ℕ
length_read None = 2
length_read (Some (i, count)) = count

abbrev pub line : ℕ → Option (Inst × ℕ) → List ℕ
line address found = hexadecimal address ++ codes ": " ++ shown address found ++ 10 ∷ []

-- the lines of the bytes from an address on; the first of them, `inside`, stand on the line before
unfoldable pub lines : Reader Spells StandsFor → (inside address : ℕ) → List ℕ → List ℕ
lines reader inside address [] = []
lines reader (suc inside) address (b ∷ bytes) = lines reader inside (suc address) bytes
lines reader zero address (b ∷ bytes) =
    let found = front reader (b ∷ bytes) in
    line address found ++ lines reader (length_read found - 1) (suc address) bytes
