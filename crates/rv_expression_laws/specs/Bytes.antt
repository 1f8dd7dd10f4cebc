-- The bytes of a source: their classes, digits and numerals (Assembly Programmer's Manual; GNU as,
-- "Symbols", "Constants").

use Rattle.std.specs.Prelude.{ℕ, ◌+◌, ◌-◌, ◌*◌, ◌^◌, Bool, ◌&&◌, ◌||◌, nat_le, nat_lt, ◌==◌, if◌then◌else◌, List, [], ◌∷◌, length, codes}
use Rattle.rv_expression_laws.specs.declared.punct.Punct.{Punct}
use Rattle.rv_expression_laws.specs.declared.punct.Punct.TheVariants.{Comma, Colon, Semicolon, Open, Close, Plus, Minus, Star, Slash, Percent, ShiftLeft, ShiftRight, Bar, Ampersand, Caret, Tilde, At, Equal, NotEqual, LessGreater, Less, Greater, LessEqual, GreaterEqual, DoubleSlash}
use Rattle.rv_expression_laws.specs.declared.class.Class.{Class}
use Rattle.rv_expression_laws.specs.declared.class.Class.TheVariants.{Letter, Digit, Blank, LineEnd, Single, HashByte, SlashByte, QuoteByte, ApostropheByte, LessByte, GreaterByte, EqualByte, BangByte, Odd, Foreign}

-- whether low ≤ b ≤ high
abbrev pub between : ℕ → ℕ → ℕ → Bool
between low high b = nat_le low b && nat_le b high

-- `a` to `z`, `A` to `Z`, `_`, `.`, `$`: what begins a name
abbrev pub is_letter : ℕ → Bool
is_letter b = between 97 122 b || between 65 90 b || (b == 95) || (b == 46) || (b == 36)

-- `0` to `9`
abbrev pub is_decimal : ℕ → Bool
is_decimal b = between 48 57 b

-- what names and numbers go on with
abbrev pub is_word : ℕ → Bool
is_word b = is_letter b || is_decimal b

-- what stands on its line: all but a line feed
abbrev pub in_line : ℕ → Bool
in_line b = if b == 10 then Bool.false else Bool.true

-- the punctuation that a byte alone is, where no other begins with it; else what the byte begins
unfoldable pub class : ℕ → Class
class b =
    if is_letter b then Letter else
    if is_decimal b then Digit else
    if (b == 32) || (b == 9) || (b == 13) then Blank else
    if b == 10 then LineEnd else
    if b == 44 then Single Comma else
    if b == 40 then Single Open else
    if b == 41 then Single Close else
    if b == 58 then Single Colon else
    if b == 35 then HashByte else
    if b == 59 then Single Semicolon else
    if b == 43 then Single Plus else
    if b == 45 then Single Minus else
    if b == 42 then Single Star else
    if b == 37 then Single Percent else
    if b == 124 then Single Bar else
    if b == 38 then Single Ampersand else
    if b == 94 then Single Caret else
    if b == 126 then Single Tilde else
    if b == 64 then Single At else
    if b == 47 then SlashByte else
    if b == 34 then QuoteByte else
    if b == 39 then ApostropheByte else
    if b == 60 then LessByte else
    if b == 62 then GreaterByte else
    if b == 61 then EqualByte else
    if b == 33 then BangByte else
    if between 32 126 b then Odd else Foreign

-- how punctuation is spelled
abbrev pub spelling : Punct → List ℕ
spelling Comma = codes ","
spelling Colon = codes ":"
spelling Semicolon = codes ";"
spelling Open = codes "("
spelling Close = codes ")"
spelling Plus = codes "+"
spelling Minus = codes "-"
spelling Star = codes "*"
spelling Slash = codes "/"
spelling Percent = codes "%"
spelling ShiftLeft = codes "<<"
spelling ShiftRight = codes ">>"
spelling Bar = codes "|"
spelling Ampersand = codes "&"
spelling Caret = codes "^"
spelling Tilde = codes "~"
spelling At = codes "@"
spelling Equal = codes "=="
spelling NotEqual = codes "!="
spelling LessGreater = codes "<>"
spelling Less = codes "<"
spelling Greater = codes ">"
spelling LessEqual = codes "<="
spelling GreaterEqual = codes ">="
spelling DoubleSlash = codes "//"

-- the value of a digit `0` to `9`, `a` to `f`, `A` to `F`; 16 for every other byte
unfoldable pub digit : ℕ → ℕ
digit b =
    if between 48 57 b then b - 48 else
    if between 97 102 b then b - 87 else
    if between 65 70 b then b - 55 else 16

-- whether the byte is a digit in this base, up to 16
abbrev pub is_digit : ℕ → ℕ → Bool
is_digit base b = nat_lt (digit b) base

-- the number that digits spell in a base
abbrev pub digits_value : ℕ → List ℕ → ℕ
digits_value base [] = 0
digits_value base (d ∷ ds) = digit d * base ^ length ds + digits_value base ds
