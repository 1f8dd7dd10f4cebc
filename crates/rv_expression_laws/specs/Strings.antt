-- The bytes of strings and characters, each as it stands or by an escape (GNU as, "Strings").

use Rattle.std.specs.Prelude.{◌≡◌, ℕ, ◌%◌, ◌<◌, ◌≤◌, Bool, true, false, ◌&&◌, ◌||◌, ◌==◌, not, nat_lt, if◌then◌else◌, List, [], ◌∷◌, length, Option, Some, None}
use Rattle.std.specs.List.{list_all}
use Rattle.rv_expression_laws.specs.Bytes.{between, is_digit, digits_value}

-- what one byte of a string is written as: as it stands, by a letter after `\`, by up to three
-- octal digits after `\` (counted modulo 256), or by one or two hexadecimal digits after `\x`
pub data Atom : Type 0 where
  Plain : (byte : ℕ) → Atom
  Named : (byte : ℕ) → Atom
  Octal : (digits : List ℕ) → Atom
  Hexadecimal : (digits : List ℕ) → Atom

-- the byte
abbrev pub byte_of : Atom → ℕ
byte_of (Plain byte) = byte
byte_of (Named byte) = byte
byte_of (Octal digits) = digits_value 8 digits % 256
byte_of (Hexadecimal digits) = digits_value 16 digits

-- the byte that a letter after `\` stands for: `\b \f \n \r \t \\ \" \'`
abbrev pub named : ℕ → Option ℕ
named e =
    if e == 98 then Some 8 else
    if e == 102 then Some 12 else
    if e == 110 then Some 10 else
    if e == 114 then Some 13 else
    if e == 116 then Some 9 else
    if (e == 92) || (e == 34) || (e == 39) then Some e else None

-- what stands in a string as it is: all but `"`, `\` and a line feed
abbrev pub is_plain : ℕ → Bool
is_plain b = not ((b == 34) || (b == 92) || (b == 10))

abbrev pub SpellsAtom : Atom → List ℕ → Type 0
SpellsAtom (Plain byte) text = (text ≡ byte ∷ []) × (is_plain byte ≡ true)
SpellsAtom (Named byte) text = (e : ℕ) × (text ≡ 92 ∷ e ∷ []) × (named e ≡ Some byte)
SpellsAtom (Octal digits) text =
    (text ≡ 92 ∷ digits) × (list_all (is_digit 8) digits ≡ true) × (0 < length digits)
    × (length digits ≤ 3)
SpellsAtom (Hexadecimal digits) text =
    (text ≡ 92 ∷ 120 ∷ digits) × (list_all (is_digit 16) digits ≡ true) × (0 < length digits)
    × (length digits ≤ 2)

-- whether a next byte belongs to the escape
abbrev pub atom_goes_on : Atom → ℕ → Bool
atom_goes_on (Octal digits) b = nat_lt (length digits) 3 && is_digit 8 b
atom_goes_on (Hexadecimal digits) b = nat_lt (length digits) 2 && is_digit 16 b
atom_goes_on (Plain byte) b = false
atom_goes_on (Named byte) b = false

abbrev pub StopsAtom : Atom → List ℕ → Type 0
StopsAtom a [] = Unit {0}
StopsAtom a (b ∷ bs) = atom_goes_on a b ≡ false

-- what stands as it is between apostrophes: a tab or a printable byte, but neither `'` nor `\`
abbrev pub is_character : ℕ → Bool
is_character b = (between 32 126 b || (b == 9)) && not ((b == 39) || (b == 92))

-- whether an atom is an escape
abbrev pub is_escape : Atom → Bool
is_escape (Plain byte) = false
is_escape (Named byte) = true
is_escape (Octal digits) = true
is_escape (Hexadecimal digits) = true
