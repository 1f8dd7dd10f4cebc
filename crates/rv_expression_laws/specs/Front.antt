-- The lexeme at the front of bytes, by looking at them in order: the function that the definitions
-- of Grammar leave room for one of. The laws say that the two agree, so nothing rests on how this
-- one goes.

use Rattle.std.specs.Prelude.{ℕ, suc, ◌+◌, ◌^◌, Bool, true, false, ◌&&◌, ◌==◌, nat_lt, if◌then◌else◌, List, [], ◌∷◌, Option, Some, None, option_map, length, take, drop, map}
use Rattle.std.specs.List.{list_all, prefix_len}
use Rattle.rv_expression_laws.specs.declared.punct.Punct.{Punct}
use Rattle.rv_expression_laws.specs.declared.punct.Punct.TheVariants.{Slash, ShiftLeft, ShiftRight, Equal, NotEqual, LessGreater, Less, Greater, LessEqual, GreaterEqual, DoubleSlash}
use Rattle.rv_expression_laws.specs.declared.class.Class.{Class}
use Rattle.rv_expression_laws.specs.declared.class.Class.TheVariants.{Letter, Digit, Blank, LineEnd, Single, HashByte, SlashByte, QuoteByte, ApostropheByte, LessByte, GreaterByte, EqualByte, BangByte, Odd, Foreign}
use Rattle.rv_expression_laws.specs.Cut.{Piece, texts, cut}
use Rattle.rv_expression_laws.specs.Bytes.{class, is_word, in_line, is_digit, digits_value}
use Rattle.rv_expression_laws.specs.Strings.{Atom, Plain, Named, Octal, Hexadecimal, byte_of, named, is_plain, is_character}
use Rattle.rv_expression_laws.specs.Grammar.{Kind, Space, Line_comment, Block_comment, Newline, Punctuation, Name, Number, Reference, Bad_word, Text, Character}
use Rattle.rv_expression_laws.specs.Lexing.{Token, last_kind, is_gap, newlines}

-- whether the list begins with this number
abbrev pub has_first : ℕ → List ℕ → Bool
has_first c [] = false
has_first c (b ∷ bs) = b == c

-- the number that digits spell, where they are digits of the base and it fits 64 bits
abbrev pub number_by : ℕ → List ℕ → Option ℕ
number_by base ds =
    if list_all (is_digit base) ds && nat_lt (digits_value base ds) (2 ^ 64)
    then Some (digits_value base ds) else None

abbrev pub after_zero : List ℕ → Option ℕ
after_zero [] = number_by 8 []
after_zero (c ∷ []) = number_by 8 (c ∷ [])
after_zero (c ∷ d ∷ ds) =
    if c == 120 then number_by 16 (d ∷ ds) else if c == 98
    then number_by 2 (d ∷ ds) else number_by 8 (c ∷ d ∷ ds)

-- the number that a word writes
unfoldable pub word_number : List ℕ → Option ℕ
word_number [] = None
word_number (d ∷ ds) = if d == 48 then after_zero ds else number_by 10 (d ∷ ds)

abbrev pub with_direction : List ℕ → List ℕ → Option (List ℕ × Bool)
with_direction ds [] = None
with_direction ds (c ∷ []) =
    if c == 102 then Some (ds, true) else if c == 98 then Some (ds, false) else None
with_direction ds (c ∷ d ∷ cs) = None

-- the numeric label that a word refers to
unfoldable pub reference_in : List ℕ → Option (List ℕ × Bool)
reference_in word =
    let n = prefix_len (is_digit 10) word in with_direction (take n word) (drop n word)

abbrev pub number_kind : List ℕ → Option ℕ → Kind
number_kind word None = Bad_word word
number_kind word (Some n) = Number word n

abbrev pub digits_kind : List ℕ → Option (List ℕ × Bool) → Kind
digits_kind word None = number_kind word (word_number word)
digits_kind word (Some r) = Reference r.0 r.1

-- where the first `*/` begins
abbrev pub close_at : List ℕ → Option ℕ
close_at [] = None
close_at (b ∷ bs) =
    if (b == 42) && has_first 47 bs then Some 0 else option_map (λ n. suc n) (close_at bs)

-- the escape after a `\`, and its length with the `\`
unfoldable pub escape_at : List ℕ → Option (Atom × ℕ)
escape_at [] = None
escape_at (e ∷ es) =
    if is_digit 8 e then
    (let n = prefix_len (is_digit 8) (take 2 es) in Some (Octal (e ∷ take n es), suc (suc n)))
    else if e == 120 then
    (let n = prefix_len (is_digit 16) (take 2 es) in if n == 0
    then None else Some (Hexadecimal (take n es), suc (suc n)))
    else option_map (λ b. (Named b, 2)) (named e)

-- what stands for one byte of a string
unfoldable pub atom_at : List ℕ → Option (Atom × ℕ)
atom_at [] = None
atom_at (b ∷ bs) = if b == 92 then escape_at bs else if is_plain b then Some (Plain b, 1) else None

-- a string, after its `"`
abbrev pub closed_string : List (Piece Atom ℕ) × List ℕ → Option (Kind × ℕ)
closed_string c =
    if has_first 34 c.1
    then Some (Text (map (λ a. byte_of a.kind) c.0), suc (suc (length (texts c.0)))) else None

abbrev pub closed_escape : List ℕ → Option (Atom × ℕ) → Option (Kind × ℕ)
closed_escape bs None = None
closed_escape bs (Some f) =
    if has_first 39 (drop f.1 bs) then Some (Character (byte_of f.0), suc (suc f.1)) else None

-- a character, after its `'`
abbrev pub character_at : List ℕ → Option (Kind × ℕ)
character_at [] = None
character_at (b ∷ bs) =
    if b == 92 then closed_escape (b ∷ bs) (escape_at bs) else
    if is_character b && has_first 39 bs then Some (Character b, 3) else None

abbrev pub after_slash : List ℕ → Option (Kind × ℕ)
after_slash [] = Some (Punctuation Slash, 1)
after_slash (c ∷ cs) =
    if c == 47 then Some (Punctuation DoubleSlash, 2) else
    if c == 42
    then option_map (λ n. (Block_comment, suc (suc (suc (suc n))))) (close_at cs)
    else Some (Punctuation Slash, 1)

abbrev pub after_less : List ℕ → Option (Kind × ℕ)
after_less [] = Some (Punctuation Less, 1)
after_less (c ∷ cs) =
    if c == 60 then Some (Punctuation ShiftLeft, 2) else
    if c == 61 then Some (Punctuation LessEqual, 2) else
    if c == 62 then Some (Punctuation LessGreater, 2) else Some (Punctuation Less, 1)

abbrev pub after_greater : List ℕ → Option (Kind × ℕ)
after_greater [] = Some (Punctuation Greater, 1)
after_greater (c ∷ cs) =
    if c == 62 then Some (Punctuation ShiftRight, 2) else
    if c == 61 then Some (Punctuation GreaterEqual, 2) else Some (Punctuation Greater, 1)

-- this punctuation, where a `=` follows
abbrev pub with_equal : Punct → List ℕ → Option (Kind × ℕ)
with_equal punct bs = if has_first 61 bs then Some (Punctuation punct, 2) else None

abbrev pub name_at : ℕ → List ℕ → ℕ → Option (Kind × ℕ)
name_at b bs n = Some (Name (b ∷ take n bs), suc n)

abbrev pub digits_at : List ℕ → ℕ → Option (Kind × ℕ)
digits_at word n = Some (digits_kind word (reference_in word), suc n)

abbrev pub lexeme_by : Class → ℕ → List ℕ → Option (Kind × ℕ)
lexeme_by Letter b bs = name_at b bs (prefix_len is_word bs)
lexeme_by Digit b bs = digits_at (b ∷ take (prefix_len is_word bs) bs) (prefix_len is_word bs)
lexeme_by Blank b bs = Some (Space, 1)
lexeme_by LineEnd b bs = Some (Newline, 1)
lexeme_by (Single punct) b bs = Some (Punctuation punct, 1)
lexeme_by HashByte b bs = Some (Line_comment, suc (prefix_len in_line bs))
lexeme_by SlashByte b bs = after_slash bs
lexeme_by QuoteByte b bs = closed_string (cut atom_at bs)
lexeme_by ApostropheByte b bs = character_at bs
lexeme_by LessByte b bs = after_less bs
lexeme_by GreaterByte b bs = after_greater bs
lexeme_by EqualByte b bs = with_equal Equal bs
lexeme_by BangByte b bs = with_equal NotEqual bs
lexeme_by Odd b bs = None
lexeme_by Foreign b bs = None

-- the lexeme at the front: its kind and its length
unfoldable pub lexeme_at : List ℕ → Option (Kind × ℕ)
lexeme_at [] = None
lexeme_at (b ∷ bs) = lexeme_by (class b) b bs

-- the tokens of lexemes and of the rest, from an offset and a line on
abbrev pub tokens_at : ℕ → ℕ → List (Piece Kind ℕ) → List ℕ → List Token
tokens_at at line [] rest =
    record { kind = last_kind rest; start = at; stop = at + length rest; line = line } ∷ []
tokens_at at line (p ∷ ps) rest =
    let after = tokens_at (at + length p.text) (line + newlines p.text) ps rest in
    if is_gap p.kind
    then after
    else record { kind = p.kind; start = at; stop = at + length p.text; line = line } ∷ after

-- the tokens of bytes that stand at an offset, on a line
unfoldable pub tokens_from : ℕ → ℕ → List ℕ → List Token
tokens_from at line bytes =
    let lexemes = cut lexeme_at bytes in tokens_at at line lexemes.0 lexemes.1
