-- The tokens of a source, with their offsets: its lexemes but for blanks and comments.

use Rattle.std.specs.Prelude.{◌≡◌, ℕ, ◌+◌, Bool, true, false, ◌==◌, if◌then◌else◌, List, [], ◌∷◌, ◌++◌, length}
use Rattle.rv_expression_laws.specs.declared.class.Class.{Class}
use Rattle.rv_expression_laws.specs.declared.class.Class.TheVariants.{Foreign}
use Rattle.rv_expression_laws.specs.Cut.{Piece, texts, Cuts, NothingReads}
use Rattle.rv_expression_laws.specs.Bytes.{class}
use Rattle.rv_expression_laws.specs.Grammar.{Kind, Space, Line_comment, Block_comment, Bad_byte, Bad_token, End, Spells, Stops}

-- a token: what it is, the offsets of its first byte and of the byte after it (from 0), its first
-- byte's line (from 1)
pub record Token : Type 0 where
  pub kind : Kind
  pub start : ℕ
  pub stop : ℕ
  pub line : ℕ

-- the line feeds among bytes
abbrev pub newlines : List ℕ → ℕ
newlines [] = 0
newlines (b ∷ bs) = (if b == 10 then 1 else 0) + newlines bs

-- a lexeme's token, after these bytes
abbrev pub placed : List ℕ → Piece Kind ℕ → Token
placed before p =
    record {
      kind = p.kind;
      start = length before;
      stop = length before + length p.text;
      line = 1 + newlines before;
    }

-- blanks and comments are no tokens
abbrev pub is_gap : Kind → Bool
is_gap Space = true
is_gap Line_comment = true
is_gap Block_comment = true
is_gap _ = false

-- the tokens of lexemes that stand after these bytes
abbrev pub tokens_of : List ℕ → List (Piece Kind ℕ) → List Token
tokens_of before [] = []
tokens_of before (p ∷ ps) =
    if is_gap p.kind
    then tokens_of (before ++ p.text) ps else placed before p ∷ tokens_of (before ++ p.text) ps

-- a byte of this class where no lexeme can stand: bytes that are never good apart from the others
abbrev pub bad : Class → Kind
bad Foreign = Bad_byte
bad _ = Bad_token

-- the kind of the last token: what stands where no lexeme can
abbrev pub last_kind : List ℕ → Kind
last_kind [] = End
last_kind (b ∷ bs) = bad (class b)

-- whether the token is the last
abbrev pub is_last : Kind → Bool
is_last Bad_byte = true
is_last Bad_token = true
is_last End = true
is_last _ = false

-- a last token ends the list
abbrev pub is_ended : List Token → Bool
is_ended [] = false
is_ended (t ∷ []) = is_last t.kind
is_ended (t ∷ u ∷ ts) = is_ended (u ∷ ts)

-- the last token, after these bytes: it has all the rest
abbrev pub last : List ℕ → List ℕ → Token
last before rest = placed before (record { kind = last_kind rest; text = rest })

-- the bytes are cut as far as lexemes go
abbrev pub CutInto : List ℕ → List (Piece Kind ℕ) → List ℕ → Type 0
CutInto bytes ps rest = Cuts Kind ℕ Spells Stops bytes ps rest × NothingReads Spells Stops rest

-- the tokens of a source; exactly one list is
abbrev pub Lexes : List ℕ → List Token → Type 0
Lexes bytes ts =
    (ps : List (Piece Kind ℕ)) × (rest : List ℕ) × CutInto bytes ps rest
    × (ts ≡ tokens_of [] ps ++ last (texts ps) rest ∷ [])
