-- The lexemes of a source: blanks and comments, and the tokens (Assembly Programmer's Manual; GNU
-- as, "Syntax").

use Rattle.std.specs.Prelude.{◌≡◌, ℕ, ◌^◌, ◌<◌, Bool, true, false, ◌||◌, ◌==◌, List, [], ◌∷◌, ◌++◌, map, ◌⊎◌, if◌then◌else◌}
use Rattle.std.specs.List.{list_all}
use Rattle.rv_expression_laws.specs.declared.punct.Punct.{Punct}
use Rattle.rv_expression_laws.specs.declared.punct.Punct.TheVariants.{Slash, Less, Greater}
use Rattle.rv_expression_laws.specs.declared.class.Class.{Class}
use Rattle.rv_expression_laws.specs.declared.class.Class.TheVariants.{Letter, Digit, Blank}
use Rattle.rv_expression_laws.specs.Cut.{Piece, texts, Each}
use Rattle.rv_expression_laws.specs.Bytes.{class, spelling, is_word, in_line, is_digit, digits_value}
use Rattle.rv_expression_laws.specs.Strings.{Atom, byte_of, SpellsAtom, StopsAtom, is_character, is_escape}

pub data Kind : Type 0 where
  -- a blank
  Space : Kind
  -- `#` and the rest of its line
  Line_comment : Kind
  -- `/*` to the next `*/`
  Block_comment : Kind
  -- a line feed, which ends its line
  Newline : Kind
  Punctuation : (punct : Punct) → Kind
  -- a mnemonic, a register, a directive, a symbol; `.` alone too
  Name : (name : List ℕ) → Kind
  -- a number as it is written, and its value
  Number : (word : List ℕ) (number : ℕ) → Kind
  -- `1b` or `1f`: the digits, and whether the label comes after
  Reference : (digits : List ℕ) (forward : Bool) → Kind
  -- another word that begins with a digit: good as a numeric label alone
  Bad_word : (word : List ℕ) → Kind
  -- a string's bytes
  Text : (bytes : List ℕ) → Kind
  -- a character's byte
  Character : (byte : ℕ) → Kind
  -- the last tokens: a byte or a token that the language does not have, or the end of the source
  Bad_byte : Kind
  Bad_token : Kind
  End : Kind

-- a word: a byte of this class, and what names and numbers go on with
abbrev pub IsWord : Class → List ℕ → Type 0
IsWord first text =
    (b : ℕ) × (bs : List ℕ) × (text ≡ b ∷ bs) × (class b ≡ first) × (list_all is_word bs ≡ true)

-- how a number shows its base, and the digits in it: `10`, `017`, `0x1f`, `0b11`
pub data ShowsBase : List ℕ → ℕ → List ℕ → Type 0 where
  Decimal : (d : ℕ) (ds : List ℕ) → (d == 48) ≡ false → ShowsBase (d ∷ ds) 10 (d ∷ ds)
  Octal_digits : (ds : List ℕ) → ShowsBase (48 ∷ ds) 8 ds
  Hexadecimal_digits : (d : ℕ) (ds : List ℕ) → ShowsBase (48 ∷ 120 ∷ d ∷ ds) 16 (d ∷ ds)
  Binary_digits : (d : ℕ) (ds : List ℕ) → ShowsBase (48 ∷ 98 ∷ d ∷ ds) 2 (d ∷ ds)

-- the word writes this number, which fits 64 bits
pub record IsNumber (word : List ℕ) (number : ℕ) : Type 0 where
  pub base : ℕ
  pub digits : List ℕ
  pub shows : ShowsBase word base digits
  pub all_digits : list_all (is_digit base) digits ≡ true
  pub is_value : number ≡ digits_value base digits
  pub fits : number < 2 ^ 64

-- the last byte of a numeric reference: `f` for a label after it, `b` for one before it
abbrev pub direction : Bool → ℕ
direction forward = if forward then 102 else 98

-- the word refers to a numeric label
abbrev pub IsReference : List ℕ → List ℕ → Bool → Type 0
IsReference word digits forward =
    (word ≡ digits ++ direction forward ∷ []) × (list_all (is_digit 10) digits ≡ true)

-- no `*/` stands in the bytes
abbrev pub NoClose : List ℕ → Type 0
NoClose text = (front back : List ℕ) → text ≡ front ++ 42 ∷ 47 ∷ back → ⊥

-- what each kind is spelled as
abbrev pub Spells : Kind → List ℕ → Type 0
Spells Space text = (b : ℕ) × (text ≡ b ∷ []) × (class b ≡ Blank)
Spells Line_comment text =
    (inside : List ℕ) × (text ≡ 35 ∷ inside) × (list_all in_line inside ≡ true)
Spells Block_comment text =
    (inside : List ℕ) × (text ≡ 47 ∷ 42 ∷ (inside ++ 42 ∷ 47 ∷ [])) × NoClose (inside ++ 42 ∷ [])
Spells Newline text = text ≡ 10 ∷ []
Spells (Punctuation punct) text = text ≡ spelling punct
Spells (Name name) text = (text ≡ name) × IsWord Letter text
Spells (Number word number) text = (text ≡ word) × IsWord Digit text × IsNumber text number
Spells (Reference digits forward) text = IsWord Digit text × IsReference text digits forward
Spells (Bad_word word) text =
    (text ≡ word) × IsWord Digit text × ((n : ℕ) → IsNumber text n → ⊥)
    × ((digits : List ℕ) (forward : Bool) → IsReference text digits forward → ⊥)
Spells (Text bytes) text =
    (atoms : List (Piece Atom ℕ)) × (text ≡ 34 ∷ (texts atoms ++ 34 ∷ []))
    × Each SpellsAtom StopsAtom atoms (34 ∷ []) × (bytes ≡ map (λ a. byte_of a.kind) atoms)
Spells (Character byte) text = (text ≡ 39 ∷ byte ∷ 39 ∷ []) × (is_character byte ≡ true)
    ⊎ ((a : Atom) × (one : List ℕ) × (text ≡ 39 ∷ (one ++ 39 ∷ [])) × (is_escape a ≡ true)
    × SpellsAtom a one × (byte ≡ byte_of a))
Spells Bad_byte text = ⊥
Spells Bad_token text = ⊥
Spells End text = ⊥

-- which next byte would make a lexeme longer
abbrev pub goes_on : Kind → ℕ → Bool
goes_on Line_comment b = in_line b
goes_on (Punctuation Slash) b = (b == 42) || (b == 47)
goes_on (Punctuation Less) b = (b == 60) || (b == 61) || (b == 62)
goes_on (Punctuation Greater) b = (b == 61) || (b == 62)
goes_on (Name name) b = is_word b
goes_on (Number word number) b = is_word b
goes_on (Reference digits forward) b = is_word b
goes_on (Bad_word word) b = is_word b
goes_on _ b = false

-- a lexeme is as long as it can be
abbrev pub Stops : Kind → List ℕ → Type 0
Stops k [] = Unit {0}
Stops k (b ∷ bs) = goes_on k b ≡ false
