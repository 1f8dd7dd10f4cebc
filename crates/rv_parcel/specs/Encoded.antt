-- How an instruction lies in memory: as a word, or as a parcel where compressed code is on
-- (Unprivileged ISA 20191213, 1.5 and chapter 16).

use Rattle.std.specs.Prelude.{◌≡◌, ◌⊎◌, ℕ, Bool, true, false, List, Option, Some, None}
use Rattle.rv_isa.specs.declared.instruction.Inst.{Inst}
use Rattle.rv_isa_laws.specs.Bytes.{little_endian}
use Rattle.rv_isa_laws.specs.Word.{form, word}
use Rattle.rv_parcel.specs.declared.form.Compressed.{Compressed}
use Rattle.rv_parcel.specs.Parcel.{IsLine, parcel, expansion, IsShortOf}

-- a parcel stands for an instruction, and is no HINT (ISA, 16.7)
abbrev pub HasShort : Inst → Type 0
HasShort i = (p : ℕ) × IsShortOf i p

-- the bytes of an instruction: two where compressed code may be and a parcel stands for it, else
-- four
abbrev pub IsLeast : Bool → Inst → ℕ → Type 0
IsLeast true i bytes = ((bytes ≡ 2) × HasShort i) ⊎ ((bytes ≡ 4) × (HasShort i → ⊥))
IsLeast false i bytes = bytes ≡ 4

-- these are the four bytes of its word, or the two of the parcel that is chosen for it
abbrev pub IsEncodedIn : Inst → ℕ → List ℕ → Type 0
IsEncodedIn i bytes written =
    ((bytes ≡ 4) × (written ≡ little_endian 4 (word (form i))))
    ⊎ ((bytes ≡ 2) × ((q : ℕ) × IsShortOf i q × (written ≡ little_endian 2 q)))

-- the same where a source may name the form of a parcel: that one it has, whatever else stands for
-- its instruction, and wherever it is
abbrev pub IsLeastAs : Option Compressed → Bool → Inst → ℕ → Type 0
IsLeastAs (Some form) compressed i bytes = bytes ≡ 2
IsLeastAs None compressed i bytes = IsLeast compressed i bytes

abbrev pub IsEncodedAs : Option Compressed → Inst → ℕ → List ℕ → Type 0
IsEncodedAs (Some form) i bytes written =
    (bytes ≡ 2) × IsLine form × (expansion form ≡ i) × (written ≡ little_endian 2 (parcel form))
IsEncodedAs None i bytes written = IsEncodedIn i bytes written
