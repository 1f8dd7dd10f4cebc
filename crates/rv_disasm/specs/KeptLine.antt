-- A line that is kept.

use Rattle.std.specs.Prelude.{◌≡◌, ℕ, List}
use Rattle.std.specs.Int.{to_le_bytes, w32}
use Rattle.rv_isa_laws.specs.Reader.{Reader}
use Rattle.rv_isa_laws.specs.Word.{Spells}
use Rattle.rv_parcel.specs.Parcel.{StandsFor}
use Rattle.rv_listing_laws.specs.Lines.{front, length_read, line}

-- the text is the line of a word's four bytes at an address, and stands for this count of them
abbrev pub IsLineOf : ℕ → ℕ → List ℕ → ℕ → Type 0
IsLineOf address word text count =
    (reader : Reader Spells StandsFor) →
    let found = front reader (to_le_bytes w32 word) in
    (text ≡ line address found) × (count ≡ length_read found)
