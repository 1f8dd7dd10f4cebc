-- The reading of a source (RISC-V Assembly Programmer's Manual; GNU as, "Syntax").

use Rattle.std.specs.Prelude.{◌≡◌, ℕ, ◌+◌, ◌^◌, ◌≤◌, true, List, [], ◌∷◌, ◌++◌, length}
use Rattle.std.specs.List.{list_all}
use Rattle.rv_expression_laws.specs.Bytes.{in_line}
use Rattle.rv_expression_laws.specs.Cut.{Piece, Cuts}
use Rattle.rv_expression_laws.specs.Lexing.{Token, Lexes}
use Rattle.rv_statement_laws.specs.Limits.{most_statements}
use Rattle.rv_statement_laws.specs.Statement.{Statement}
use Rattle.rv_parse_laws.specs.Syntax.{SourcePart, Ends, Says, IsPart, StopsPart}
use Rattle.rv_parse_laws.specs.Opening.{OpenWell}

-- the longest source and the longest line without its line feed, in bytes
abbrev pub longest_source : ℕ
longest_source = 2 ^ 24

abbrev pub longest_line : ℕ
longest_line = 65535

-- the byte at this place is past its line's limit: it is no line feed, and as many bytes as the
-- longest line has stand before it on its line
pub record IsPastLine (bytes : List ℕ) (place : ℕ) : Type 0 where
  pub front : List ℕ
  pub line : List ℕ
  pub byte : ℕ
  pub more : List ℕ
  pub whole : bytes ≡ front ++ (line ++ byte ∷ more)
  pub longest : length line ≡ longest_line
  pub line_is : list_all in_line line ≡ true
  pub byte_is : in_line byte ≡ true
  pub place_is : place ≡ length front + longest_line

-- the statement that a part is, with the line of its first token
abbrev pub told : SourcePart → List Token → List Statement
told Ends ts = []
told (Says statement) [] = []
told (Says statement) (t ∷ ts) = record { line = t.line; kind = statement } ∷ []

-- the statements of parts, in order
abbrev pub statements_of_parts : List (Piece SourcePart Token) → List Statement
statements_of_parts [] = []
statements_of_parts (p ∷ ps) = told p.kind p.text ++ statements_of_parts ps

-- the tokens begin with these parts, and then the rest
abbrev pub AreParts : List Token → List (Piece SourcePart Token) → List Token → Type 0
AreParts ts ps rest = Cuts SourcePart Token IsPart StopsPart ts ps rest

-- the bytes read as these statements: they are cut into tokens, the tokens into parts, all within
-- the limits, and sections are opened well
abbrev pub Reads : List ℕ → List Statement → Type 0
Reads bytes ss =
    (length bytes ≤ longest_source) × ((place : ℕ) → IsPastLine bytes place → ⊥)
    × (length ss ≤ most_statements)
    × (ts : List Token) × (ps : List (Piece SourcePart Token)) × Lexes bytes ts × AreParts ts ps []
    × (ss ≡ statements_of_parts ps) × OpenWell [] ss
