-- The first fault of a source.

use Rattle.std.specs.Prelude.{◌≡◌, ℕ, ◌+◌, ◌<◌, ◌≤◌, Bool, true, false, List, [], ◌∷◌, ◌++◌, length, take, ◌⊎◌}
use Rattle.rv_expression_laws.specs.Cut.{Piece, texts, NothingReads}
use Rattle.rv_expression_laws.specs.Lexing.{Token, Lexes, newlines}
use Rattle.rv_expression_laws.specs.Codes.{limit}
use Rattle.rv_expression_laws.specs.SyntaxError.{fault_offset}
use Rattle.rv_statement_laws.specs.Statement.{Label, Numbered, Statement}
use Rattle.rv_parse_laws.specs.Syntax.{SourcePart, Says, IsPart, StopsPart, is_end, colon_next}
use Rattle.rv_parse_laws.specs.WrongOpening.{IsWrongOpening}
use Rattle.rv_parse_laws.specs.Wrong.{IsWrongStatement}
use Rattle.rv_parse_laws.specs.Reading.{longest_source, IsPastLine, told, statements_of_parts, AreParts}
use Rattle.rv_statement_laws.specs.Limits.{most_statements}

-- at the front of the tokens, after these statements, no opening of a section is wrong
abbrev pub OpensWell : List Statement → List Token → Type 0
OpensWell ss ts =
    (before : List Token) (at : Token) (more : List Token) (code : ℕ) → ts ≡ before ++ at ∷ more →
    IsWrongOpening ss before at code → ⊥

-- nor is one at the front of any of these parts, after these statements and before the rest
abbrev pub AllOpenWell : List Statement → List (Piece SourcePart Token) → List Token → Type 0
AllOpenWell ss [] rest = Unit {0}
AllOpenWell ss (p ∷ ps) rest =
    OpensWell ss (texts (p ∷ ps) ++ rest) × AllOpenWell (ss ++ told p.kind p.text) ps rest

-- the tokens say these statements, with good openings, up to the rest
abbrev pub SaysUpTo : List Token → List Token → List Statement → Type 0
SaysUpTo ts rest ss =
    (ps : List (Piece SourcePart Token)) × AreParts ts ps rest × AllOpenWell [] ps rest
    × (ss ≡ statements_of_parts ps)

-- a part with these first tokens can still stand at the front of the rest: a colon after the rest's
-- first token makes it a label, and without it there is none
abbrev pub is_label_part : SourcePart → Bool
is_label_part (Says (Label name)) = true
is_label_part (Says (Numbered number)) = true
is_label_part _ = false

abbrev pub begins_label : List Token → Bool
begins_label [] = false
begins_label (t ∷ ts) = colon_next ts

abbrev pub CanGoOn : List Token → List Token → Type 0
CanGoOn rest before =
    (p : SourcePart) × (more : List Token) × (is_label_part p ≡ begins_label rest)
    × IsPart p (before ++ more)

-- a token with which nothing can go on, after good parts and no wrong opening; the fault stands at
-- that token, or at the first token of an operand that it ends, which is spelled right and is
-- refused for what it says
pub record WrongToken (bytes : List ℕ) (place code : ℕ) : Type 0 where
  pub tokens : List Token
  pub lexes : Lexes bytes tokens
  pub parts : List (Piece SourcePart Token)
  pub rest : List Token
  pub cut : AreParts tokens parts rest
  pub opens : AllOpenWell [] parts rest
  pub nothing : NothingReads IsPart StopsPart rest
  pub before : List Token
  pub at : Token
  pub more : List Token
  pub whole : rest ≡ before ++ at ∷ more
  pub goes : CanGoOn rest before
  pub stops : CanGoOn rest (before ++ at ∷ []) → ⊥
  pub opens_well : OpensWell (statements_of_parts parts) (before ++ at ∷ [])
  pub front : List Token
  pub shown : Token
  pub back : List Token
  pub shown_is : before ++ at ∷ [] ≡ front ++ shown ∷ back
  pub fault_is : IsWrongStatement rest shown code
  pub place_is : place ≡ fault_offset shown code

-- a token with which the opening of a section is wrong, after good parts
pub record WrongOpening (bytes : List ℕ) (place code : ℕ) : Type 0 where
  pub tokens : List Token
  pub lexes : Lexes bytes tokens
  pub parts : List (Piece SourcePart Token)
  pub before : List Token
  pub at : Token
  pub more : List Token
  pub cut : AreParts tokens parts (before ++ at ∷ more)
  pub opens : AllOpenWell [] parts (before ++ at ∷ more)
  pub wrong : IsWrongOpening (statements_of_parts parts) before at code
  pub place_is : place ≡ fault_offset at code

-- the first token of a statement past the most
pub record PastStatements (bytes : List ℕ) (place : ℕ) : Type 0 where
  pub tokens : List Token
  pub lexes : Lexes bytes tokens
  pub parts : List (Piece SourcePart Token)
  pub at : Token
  pub more : List Token
  pub cut : AreParts tokens parts (at ∷ more)
  pub opens : AllOpenWell [] parts (at ∷ more)
  pub most : length (statements_of_parts parts) ≡ most_statements
  pub begins_one : is_end at.kind ≡ false
  pub place_is : place ≡ at.start

-- a fault with this code stands at this byte
abbrev pub Stands : List ℕ → ℕ → ℕ → Type 0
Stands bytes place code =
    WrongToken bytes place code ⊎ WrongOpening bytes place code
    ⊎ ((code ≡ limit) × IsPastLine bytes place) ⊎ ((code ≡ limit) × PastStatements bytes place)

-- a fault's code, by its number, and the line that it names
pub record SyntaxFault : Type 0 where
  pub code : ℕ
  pub line : ℕ

-- the first fault in the order of the bytes: at one byte the lowest number; one in a source that is
-- not too long
pub record IsFirst (bytes : List ℕ) (f : SyntaxFault) : Type 0 where
  pub place : ℕ
  pub stands : Stands bytes place f.code
  pub first : (p c : ℕ) → Stands bytes p c → (place < p) ⊎ ((place ≡ p) × (f.code ≤ c))
  pub line : f.line ≡ 1 + newlines (take place bytes)

-- the first fault of phase one: a source that is too long has it at line 0, before all others
abbrev pub Refuses : List ℕ → SyntaxFault → Type 0
Refuses bytes f =
    ((longest_source < length bytes) × (f ≡ record { code = limit; line = 0 }))
    ⊎ ((length bytes ≤ longest_source) × IsFirst bytes f)

-- the same with the byte at which the fault stands; a source that is too long has it at its front
abbrev pub RefusesAt : List ℕ → ℕ → SyntaxFault → Type 0
RefusesAt bytes place f =
    ((longest_source < length bytes) × (place ≡ 0) × (f ≡ record { code = limit; line = 0 }))
    ⊎ ((length bytes ≤ longest_source) × (first : IsFirst bytes f) × (first.place ≡ place))
